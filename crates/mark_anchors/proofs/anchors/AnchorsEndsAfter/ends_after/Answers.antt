use Rattle.std.proofs.Common.{◌&&◌, ap, ◌∙◌}
use Rattle.std.specs.List.{list_any}
use Rattle.mark_anchors.proofs.EdgeLemmas.{ends_at}
use Rattle.mark_anchors.proofs.anchors.AnchorsEndsAfter.ends_after.Goals as goal

pub returns : goal.returns
returns c =
    c.has_end_after.ensures
    ∙ (ap (λ es. list_any (λ e. e.is_end && e.is_after) es) c.edges_at.ensures
    ∙ ends_at c.args.self.now.markings c.args.self.now.edges c.args.id c.are_edges.ensures)
