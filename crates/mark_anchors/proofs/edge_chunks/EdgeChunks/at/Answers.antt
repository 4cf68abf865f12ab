use Rattle.std.proofs.Common.{◌-◌, ◌∙◌, ap, subst, sym, arith}
use Rattle.std.specs.Prelude.{filter}
use Rattle.op_ids.specs.Id.{is_same}
use Rattle.mark_anchors.specs.Edges.{AreInOrder}
use Rattle.mark_anchors.proofs.ChunkLemmas.{order_read}
use Rattle.mark_anchors.proofs.TakeLemmas.{found_at, none_at}
use Rattle.mark_anchors.proofs.edge_chunks.EdgeChunks.at.Goals as goal

pub returns-then-n-eq0 : goal.returns-then-n-eq0
returns-then-n-eq0 c =
    let above = rw c.deref.ensures.value at c.chunks_to-n.ensures.above in
    none_at c.self.inside.chunks.items c.args.id c.chunks_to-n.result c.if-n-eq0.true above ∙ ap (λ es. filter (λ e. is_same e.id c.args.id) es) c.self.view_is

pub at-requires : goal.at-requires
at-requires c =
    let bound = rw c.deref.ensures.value at c.chunks_to-n.ensures.bound in
    subst AreInOrder (sym c.edges.ensures)
    (order_read c.self.inside.chunks.items (c.chunks_to-n.result - 1) c.index.result.now c.self.invariant (omega arith) c.index.ensures)

pub returns : goal.returns
returns c =
    let bound = rw c.deref.ensures.value at c.chunks_to-n.ensures.bound in
    let below = rw c.deref.ensures.value at c.chunks_to-n.ensures.below in
    let above = rw c.deref.ensures.value at c.chunks_to-n.ensures.above in
    c.at.ensures
    ∙ (ap (λ es. filter (λ e. is_same e.id c.args.id) es) c.edges.ensures
    ∙ (found_at c.self.inside.chunks.items c.args.id c.chunks_to-n.result c.index.result.now (omega arith) bound c.index.ensures (below (omega arith)) above
    ∙ ap (λ es. filter (λ e. is_same e.id c.args.id) es) c.self.view_is))
