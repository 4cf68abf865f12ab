use Rattle.mark_anchors.proofs.ChunkLemmas.{order_read}
use Rattle.mark_anchors.proofs.PutLemmas.{put_new, put_set}
use Rattle.mark_anchors.proofs.putting.put_at.Goals as goal

pub put-requires : goal.put-requires
put-requires c =
    let spot = rw c.in-In.is at c.requires.spot in
    order_read c.args.chunks.now.items c.in-In.i c.index_mut-chunk.result.now c.requires.chunks spot.0 c.index_mut-chunk.ensures.value

pub returns-in_ok-put-in-In-clause-chunks : goal.returns-in_ok-put-in-In-clause-chunks
returns-in_ok-put-in-In-clause-chunks c =
    let spot = rw c.in-In.is at c.requires.spot in
    (put_set c.args.chunks.now.items c.in-In.i c.index_mut-chunk.result.now c.put.new.self c.args.edge c.requires.chunks spot.0 c.index_mut-chunk.ensures.value
    c.in_ok-put-in-In.ensures.put c.in_ok-put-in-In.ensures.order spot.1 spot.2).0

pub returns-in_ok-put-in-In-clause-put : goal.returns-in_ok-put-in-In-clause-put
returns-in_ok-put-in-In-clause-put c =
    let spot = rw c.in-In.is at c.requires.spot in
    (put_set c.args.chunks.now.items c.in-In.i c.index_mut-chunk.result.now c.put.new.self c.args.edge c.requires.chunks spot.0 c.index_mut-chunk.ensures.value
    c.in_ok-put-in-In.ensures.put c.in_ok-put-in-In.ensures.order spot.1 spot.2).1

pub returns-in_ok-insert-in-New-clause-chunks : goal.returns-in_ok-insert-in-New-clause-chunks
returns-in_ok-insert-in-New-clause-chunks c =
    let spot = rw c.in-New.is at c.requires.spot in
    rw (c.in_ok-insert-in-New.ensures.items, c.in_ok-chunk-in-New.ensures)
    (put_new c.args.chunks.now.items c.in-New.i c.args.edge c.requires.chunks spot.1 spot.2).0

pub returns-in_ok-insert-in-New-clause-put : goal.returns-in_ok-insert-in-New-clause-put
returns-in_ok-insert-in-New-clause-put c =
    let spot = rw c.in-New.is at c.requires.spot in
    rw (c.in_ok-insert-in-New.ensures.items, c.in_ok-chunk-in-New.ensures)
    (put_new c.args.chunks.now.items c.in-New.i c.args.edge c.requires.chunks spot.1 spot.2).1
