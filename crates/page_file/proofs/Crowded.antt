-- So many numbers can't fill more places than there are numbers.
use Rattle.std.proofs.Common.{◌≡◌, ℕ, zero, suc, ◌+◌, ◌<◌, ◌≤◌, Bool, true, false, List, [], ◌∷◌, length, refl, sym, arith}
use Rattle.std.proofs.lemmas.Bool.Decides.{nat_tests}
use Rattle.page_file.specs.Pages.{has}
use Rattle.page_file.specs.Free.{count_below}

pub count_within : (n : ℕ) (used : List ℕ) → count_below n used ≤ length used
count_within n [] = omega arith
count_within n (m ∷ ms) = let rest = count_within n ms in grind (arith, nat_tests)

pub count_rises : (n : ℕ) (used : List ℕ) → count_below n used ≤ count_below (n + 1) used
count_rises n [] = omega arith
count_rises n (m ∷ ms) = let rest = count_rises n ms in grind (arith, nat_tests)

count_more : (n : ℕ) (used : List ℕ) → has n used ≡ true → count_below n used + 1 ≤ count_below (n + 1) used
count_more n [] is_there = absurd cc
count_more n (m ∷ ms) is_there = by_test (has n ms) refl (count_rises n ms) (λ is. count_more n ms is)
  where
    by_test : (t : Bool) → has n ms ≡ t → count_below n ms ≤ count_below (n + 1) ms
        → (has n ms ≡ true → count_below n ms + 1 ≤ count_below (n + 1) ms) → count_below n (m ∷ ms) + 1 ≤ count_below (n + 1) (m ∷ ms)
    by_test true is rises more = let rest = more is in grind (arith, nat_tests)
    by_test false is rises more = grind (arith, nat_tests)

-- k used places add to the count
pub filled : (start k : ℕ) (used : List ℕ) → ((m : ℕ) → start ≤ m → m < start + k → has m used ≡ true)
    → count_below start used + k ≤ count_below (start + k) used
filled start zero used all = let place : start ≡ start + 0 = omega arith in rw (sym place) (omega arith)
filled start (suc k) used all =
    let rest = filled start k used (λ m behind below. all m behind (omega (arith, below))) in
    let place : start + k + 1 ≡ start + suc k = omega arith in
    let more = rw (place) at (count_more (start + k) used (all (start + k) (omega arith) (omega arith))) in
    omega (arith, rest, more)

-- among more places than are used one is free
pub one_is_free : (start : ℕ) (used : List ℕ) → ((m : ℕ) → start ≤ m → m < start + (length used + 1) → has m used ≡ true) → ⊥
one_is_free start used all =
    omega (arith, filled start (length used + 1) used all, count_within (start + (length used + 1)) used)
