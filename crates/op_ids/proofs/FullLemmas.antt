-- Clocks that count too much, and clocks advanced for two replicas.
use Rattle.std.proofs.Common.{◌≡◌, ℕ, ◌+◌, ◌≤◌, ◌<◌, ◌==◌, true, false, List, [], ◌∷◌, length, ◌∙◌, ap, ⊎_elim, inl, inr, arith}
use Rattle.std.proofs.lemmas.Bool.{cases_Bool}
use Rattle.std.proofs.lemmas.Bool.Decides.{nat_tests}
use Rattle.op_ids.specs.Clock.{count_of, advanced, is_clock, total_of, IsOverfull}
use Rattle.op_ids.proofs.ClockLemmas.{is_clock-advanced, is_clock_parts, advanced-set, length-with_count}

-- no count is greater than all together
pub count_of-le-total : (es : List (ℕ × ℕ)) (r : ℕ) → count_of es r ≤ total_of es
count_of-le-total [] r = omega arith
count_of-le-total (e ∷ es) r = let rest = count_of-le-total es r in grind (arith, nat_tests)

-- one more operation is counted
pub total_of-advanced : (es : List (ℕ × ℕ)) (r : ℕ) → total_of (advanced es r) ≡ total_of es + 1
total_of-advanced [] r = omega arith
total_of-advanced (e ∷ es) r = let rest = total_of-advanced es r in grind (arith, nat_tests)

-- no replica is dropped
pub length-le-advanced : (es : List (ℕ × ℕ)) (r : ℕ) → length es ≤ length (advanced es r)
length-le-advanced [] r = omega arith
length-le-advanced (e ∷ es) r = let rest = length-le-advanced es r in grind (arith, nat_tests)

-- what counts too much stays so
pub IsOverfull-advanced : (es : List (ℕ × ℕ)) (r : ℕ) → IsOverfull es → IsOverfull (advanced es r)
IsOverfull-advanced es r full =
    let sum = total_of-advanced es r in
    let long = length-le-advanced es r in
    record {
      over = ⊎_elim (λ (h : 16 < length es). inl (omega arith)) (λ (h : 16777216 < total_of es). inr (omega arith)) full.over;
    }

-- where one more operation leaves no clock, it would count too much
pub is_full_advanced : (es : List (ℕ × ℕ)) (r : ℕ) → is_clock es ≡ true → 0 < r → is_clock (advanced es r) ≡ false → IsOverfull (advanced es r)
is_full_advanced es r valid positive full =
    let rule = is_clock-advanced es r valid positive in
    let parts = is_clock_parts es valid in
    let size = ap length (advanced-set es 0 r parts.0) ∙ length-with_count es 0 r (count_of es r + 1) parts.0 in
    let sum = total_of-advanced es r in
    let most = count_of-le-total es r in
    record {
      over = ⊎_elim
          (λ (none : (count_of es r == 0) ≡ true). let many : 16 < length (advanced es r) = grind (arith, nat_tests) in inl many)
          (λ (some : (count_of es r == 0) ≡ false). let many : 16777216 < total_of (advanced es r) = grind (arith, nat_tests) in inr many)
          (cases_Bool (count_of es r == 0));
    }

-- the order in which two replicas are counted doesn't matter
pub advanced-comm : (es : List (ℕ × ℕ)) (r s : ℕ) → advanced (advanced es r) s ≡ advanced (advanced es s) r
advanced-comm [] r s = grind (arith, nat_tests)
advanced-comm (e ∷ es) r s = let rest = advanced-comm es r s in grind (arith, nat_tests)
