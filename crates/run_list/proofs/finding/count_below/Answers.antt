use Rattle.std.proofs.Common.{◌≡◌, nat_lt, true, false, rules, arith}
use Rattle.std.specs.List.Sorted.{IsPartitionPoint}
use Rattle.std.proofs.lemmas.List.Sorted.{IsPartitionPoint-from_clause, IsPartitionedBy-ltb}
use Rattle.run_list.proofs.Counting.{counted_below}
use Rattle.run_list.proofs.finding.count_below.Goals as goal

pub returns : goal.returns
returns c =
    let point : IsPartitionPoint (λ p. nat_lt p c.args.place ≡ true) (λ p. nat_lt p c.args.place ≡ false) c.args.places.now c.partition_point.result =
    IsPartitionPoint-from_clause (λ p. nat_lt p c.args.place) _ _ c.partition_point.ensures.partitioned
    (IsPartitionedBy-ltb (λ p. p) c.args.places.now c.args.place c.requires) (λ a r q k. search rules) in
    counted_below c.args.place c.args.places.now c.partition_point.result (omega arith) (λ i lt. point.0 i 0 (omega arith) lt)
    (λ i le lt. point.1 i 0 le lt)
