use Rattle.std.proofs.Common.{◌∙◌, ap, arith}
use Rattle.mark_anchors.specs.EdgeChunks.{put_in}
use Rattle.mark_anchors.proofs.PutLemmas.{insert_is_put}
use Rattle.mark_anchors.proofs.EdgeLemmas.{order_with}
use Rattle.mark_anchors.proofs.edge_chunk.EdgeChunk.put.Goals as goal

pub returns-clause-put : goal.returns-clause-put
returns-clause-put c =
    let bound = rw c.deref.ensures.value at c.not_above-place.ensures.bound in
    let place = rw c.deref.ensures.value at c.not_above-place.ensures.place in
    c.in_ok-insert.ensures.items
    ∙ (insert_is_put c.self.inside.edges.items c.args.edge c.not_above-place.result bound place ∙ ap (λ es. put_in c.args.edge es) c.self.view_is)

pub returns-clause-order : goal.returns-clause-order
returns-clause-order c =
    let bound = rw c.deref.ensures.value at c.not_above-place.ensures.bound in
    let place = rw c.deref.ensures.value at c.not_above-place.ensures.place in
    let order = rw (← c.self.view_is) at c.requires in
    order_with c.self.inside.edges.items c.insert.new.self.items c.args.edge c.not_above-place.result order bound place
    c.in_ok-insert.ensures.items (omega (arith, c.in_ok-insert.ensures.len))
