use Rattle.std.proofs.Common.{sym, ◌∙◌}
use Rattle.mark_anchors.proofs.ChunkLemmas.{order_below}
use Rattle.mark_anchors.proofs.edge_chunk.EdgeChunk.ends_below.Goals as goal

pub returns-in-Some : goal.returns-in-Some
returns-in-Some c =
    let item = rw c.deref.ensures.value at c.in-Some.ensures.item in
    let order = rw (← c.self.view_is) at c.requires in
    rw (← c.self.view_is)
    (λ is. order_below c.self.inside.edges.items c.in-Some.last.now c.args.id order item.3.0 item.1 (sym c.is_below.ensures ∙ is))
