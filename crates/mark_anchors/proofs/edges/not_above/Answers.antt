use Rattle.std.proofs.Common.{not, rules}
use Rattle.std.proofs.lemmas.List.Sorted.{IsPartitionPoint-from_clause}
use Rattle.op_ids.specs.Id.{is_below}
use Rattle.mark_anchors.proofs.EdgeLemmas.{not_above_parts, not_above_place}
use Rattle.mark_anchors.proofs.edges.not_above.Goals as goal

pub returns-clause-place : goal.returns-clause-place
returns-clause-place c =
    not_above_place c.args.edges.now c.args.id c.partition_point.result
    (IsPartitionPoint-from_clause (λ e. not (is_below c.args.id e.id)) _ _ c.partition_point.ensures.partitioned
    (not_above_parts c.args.edges.now c.args.id c.requires) (λ a r q k. search rules))
