use Rattle.std.proofs.Common.{◌≡◌, ◌∙◌, ℕ, suc, ◌-◌, ◌<◌, false, length, nat_lt, sym, ap, arith}
use Rattle.std.specs.Prelude.{◌==◌}
use Rattle.std.specs.List.{list_all}
use Rattle.std.proofs.lemmas.Bool.{eqb-true}
use Rattle.std.proofs.lemmas.List.{nil_from_length}
use Rattle.std.proofs.lemmas.Bool.Decides.{nat_tests}
use Rattle.replica_core.proofs.ClimbLemmas.{last_decides}
use Rattle.replica_core.proofs.IndexLemmas.{index_below, index_made, index_nothing}
use Rattle.replica_core.proofs.following.is_counted_up.Goals as goal

-- the index of the last one
last_index : (n : ℕ) → false ≡ (n == 0) → suc (n - 1) ≡ n
last_index n some = let more : 0 < n = at_least n (sym some) in omega arith
  where
    at_least : (m : ℕ) → (m == 0) ≡ false → 0 < m
    at_least m there = grind (arith, nat_tests)

pub head_at-requires-clause-below : goal.head_at-requires-clause-below
head_at-requires-clause-below c =
    let places = rw c.replica.ensures at c.in-Some.ensures in
    rw places (index_below c.args.index.now c.args.ops.now c.args.op.now.id.replica c.requires.index)

pub returns-then-is_empty : goal.returns-then-is_empty
returns-then-is_empty c =
    let places = rw c.replica.ensures at c.in-Some.ensures in
    let none = nil_from_length c.in-Some.places.now (eqb-true _ _ (sym c.is_empty.ensures ∙ c.if-is_empty.true)) in
    let nothing = index_nothing c.args.index.now c.args.ops.now c.args.op.now.id.replica c.requires.index (sym places ∙ none) in
    c.if-is_empty.true ∙ sym (ap (list_all (λ earlier. nat_lt earlier.id.counter c.args.op.now.id.counter)) nothing)

pub returns-in-None : goal.returns-in-None
returns-in-None c =
    let nothing = index_nothing c.args.index.now c.args.ops.now c.args.op.now.id.replica c.requires.index (rw c.replica.ensures at c.in-None.ensures) in
    sym (ap (list_all (λ earlier. nat_lt earlier.id.counter c.args.op.now.id.counter)) nothing)

pub returns-else-is_empty : goal.returns-else-is_empty
returns-else-is_empty c =
    let places = rw c.replica.ensures at c.in-Some.ensures in
    let all = last_decides c.args.ops.now c.in-Some.places.now (length c.in-Some.places.now - 1) c.head_at.result c.args.op.now c.requires.closed
    (rw places (index_below c.args.index.now c.args.ops.now c.args.op.now.id.replica c.requires.index)) (rw places (index_made c.args.index.now c.args.ops.now c.args.op.now.id.replica c.requires.index))
    (last_index (length c.in-Some.places.now) c.if-is_empty.ensures) c.head_at.ensures in
    rw (c.counter.ensures.value, c.counter-else-is_empty.ensures.value) (sym all)
