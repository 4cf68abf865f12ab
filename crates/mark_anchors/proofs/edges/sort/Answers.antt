use Rattle.std.proofs.Common.{rules}
use Rattle.std.proofs.lemmas.List.Sorted.{answers_always}
use Rattle.mark_anchors.specs.Edges.{comes_before}
use Rattle.mark_anchors.proofs.EdgeLemmas.{order_of_edges}
use Rattle.mark_anchors.proofs.edges.sort.Goals as goal

pub returns-clause-order : goal.returns-clause-order
returns-clause-order c = c.sort_unstable_by.ensures.sorted comes_before order_of_edges (answers_always _ _ _ (λ f a r g h. search rules))
