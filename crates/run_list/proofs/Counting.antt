-- A search by halves counts what is below a number.
use Rattle.std.proofs.Common.{◌≡◌, ℕ, zero, suc, ◌<◌, ◌≤◌, true, false, nat_lt, List, [], ◌∷◌, length, get_or, refl, ap, arith}
use Rattle.std.specs.Prelude.{IsTrue}
use Rattle.std.specs.List.Sorted.{IsNonDecreasing}
use Rattle.std.proofs.lemmas.Bool.Decides.{nat_tests}
use Rattle.run_list.specs.Reading.{below}

-- where those below a number end, there are as many
pub counted_below : (n : ℕ) (xs : List ℕ) (k : ℕ) → k ≤ length xs
    → ((i : ℕ) → i < k → nat_lt (get_or xs i 0) n ≡ true) → ((i : ℕ) → k ≤ i → i < length xs → nat_lt (get_or xs i 0) n ≡ false) → k ≡ below n xs
counted_below n [] k within lower upper = omega arith
counted_below n (x ∷ xs) zero within lower upper = let first : nat_lt x n ≡ false = upper 0 (omega arith) (omega arith) in rw first refl
counted_below n (x ∷ xs) (suc k) within lower upper =
    let first : nat_lt x n ≡ true = lower 0 (omega arith) in
    let rest : k ≡ below n xs =
    counted_below n xs k (omega arith) (λ i lt. lower (suc i) (omega arith)) (λ i le lt. upper (suc i) (omega arith) (omega arith)) in
    rw first (ap suc rest)

-- the last one up to a place, where they rise
pub last_up_to : (xs : List ℕ) (run place : ℕ) → IsNonDecreasing xs → run < length xs → get_or xs run 0 ≤ place
    → (suc run < length xs → place < get_or xs (suc run) 0) → suc run ≡ below (suc place) xs
last_up_to xs run place rise within begun next =
    counted_below (suc place) xs (suc run) (omega arith) (λ i lt. lower i lt) (λ i le lt. upper i le lt)
  where
    lower : (i : ℕ) → i < suc run → nat_lt (get_or xs i 0) (suc place) ≡ true
    lower i lt = let up = rise i run 0 (omega arith) within in grind (arith, nat_tests)

    upper : (i : ℕ) → suc run ≤ i → i < length xs → nat_lt (get_or xs i 0) (suc place) ≡ false
    upper i le lt =
        let up = rise (suc run) i 0 le lt in
        let above = next (omega arith) in
        grind (arith, nat_tests)

-- what a test tells
pub told_lower : (a b : ℕ) → IsTrue (nat_lt a b) → a < b
told_lower a b is = grind (arith, nat_tests)
