use Rattle.std.proofs.Common.{rules}
use Rattle.std.proofs.lemmas.List.Sorted.{IsPartitionPoint-from_clause}
use Rattle.op_ids.specs.Id.{is_below}
use Rattle.mark_anchors.proofs.EdgeLemmas.{below_parts}
use Rattle.mark_anchors.proofs.edges.below.Goals as goal

pub returns-clause-place : goal.returns-clause-place
returns-clause-place c =
    IsPartitionPoint-from_clause (λ e. is_below e.id c.args.id) _ _ c.partition_point.ensures.partitioned
    (below_parts c.args.edges.now c.args.id c.requires) (λ a r q k. search rules)
