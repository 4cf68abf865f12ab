use Rattle.std.proofs.Common.{◌≡◌, ◌+◌, ◌-◌, arith}
use Rattle.mark_anchors.proofs.ChunkLemmas.{below_read, order_read}
use Rattle.mark_anchors.proofs.spot.find_spot.Goals as goal

pub ends_below-requires : goal.ends_below-requires
ends_below-requires c =
    order_read c.args.chunks.now (c.chunks_to-n.result - 1) c.index-chunks-n.result c.requires
    (let bound = c.chunks_to-n.ensures.bound in let some = c.if-n-eq0.false in omega arith) c.index-chunks-n.is

pub returns-then-has_room : goal.returns-then-has_room
returns-then-has_room c =
    let bound = c.chunks_to-n.ensures.bound in
    let same : c.chunks_to-n.result - 1 + 1 ≡ c.chunks_to-n.result = omega arith in
    (omega arith, c.chunks_to-n.ensures.below (omega arith), rw same c.chunks_to-n.ensures.above)

pub returns : goal.returns
returns c =
    c.spot_before-2.ensures c.args.id
    (below_read c.args.chunks.now c.args.id c.chunks_to-n.result c.index-chunks-n.result (omega arith) c.chunks_to-n.ensures.bound c.index-chunks-n.is
    (c.chunks_to-n.ensures.below (omega arith)) (c.ends_below.ensures c.if-not-ends_below.false)) c.chunks_to-n.ensures.above
