use Rattle.std.proofs.Common.{nat_lt, rules}
use Rattle.std.proofs.lemmas.List.Sorted.{IsPartitionPoint-from_clause, IsPartitionedBy-ltb}
use Rattle.replica_core.proofs.maker.count_below.Goals as goal

pub returns-clause-place : goal.returns-clause-place
returns-clause-place c =
    IsPartitionPoint-from_clause (λ p. nat_lt p c.args.index) _ _ c.partition_point.ensures.partitioned
    (IsPartitionedBy-ltb (λ p. p) c.args.places.now c.args.index c.requires) (λ a r q k. search rules)
