use Rattle.std.proofs.Common.{◌≡◌, ◌-◌, [], true, false, not, get_or, rules, arith}
use Rattle.std.specs.List.Sorted.{IsPartitionPoint}
use Rattle.std.proofs.lemmas.List.Sorted.{IsPartitionPoint-from_clause}
use Rattle.mark_anchors.specs.EdgeChunks.{starts_above}
use Rattle.mark_anchors.proofs.ChunkLemmas.{above_from, below_to, chunk_parts}
use Rattle.mark_anchors.proofs.EdgeLemmas.{not_false, not_true}
use Rattle.mark_anchors.proofs.spot.chunks_to.Goals as goal

place_of : (c : goal.After-partition_point) → IsPartitionPoint (λ k. not (starts_above c.args.id k) ≡ true) (λ k. not (starts_above c.args.id k) ≡ false) c.args.chunks.now
    c.partition_point.result
place_of c =
    IsPartitionPoint-from_clause (λ k. not (starts_above c.args.id k)) _ _ c.partition_point.ensures.partitioned
    (chunk_parts c.args.chunks.now c.args.id c.requires) (λ a r q k. search rules)

pub returns-clause-above : goal.returns-clause-above
returns-clause-above c =
    let ks = c.args.chunks.now in
    let n = c.partition_point.result in
    above_from ks c.args.id n c.requires (λ d within. not_false (starts_above c.args.id (get_or ks n d)) ((place_of c).1 n d (omega arith) within))

pub returns-clause-begins : goal.returns-clause-begins
returns-clause-begins c = λ some.
    let ks = c.args.chunks.now in
    let n = c.partition_point.result in
    not_true (starts_above c.args.id (get_or ks (n - 1) [])) ((place_of c).0 (n - 1) [] (omega arith) (omega arith))

pub returns-clause-below : goal.returns-clause-below
returns-clause-below c = λ some.
    let ks = c.args.chunks.now in
    let n = c.partition_point.result in
    below_to ks c.args.id (n - 1) c.requires (omega (arith, c.partition_point.ensures.bound)) (returns-clause-begins c some)
