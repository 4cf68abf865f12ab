-- Numbers in another order are pages where they were.
use Rattle.std.proofs.Common.{◌≡◌, ℕ, ◌≤◌, Bool, true, false, ◌==◌, nat_lt, All, List, refl, sym, ap, ◌∙◌, if◌then◌else◌}
use Rattle.std.specs.List.Sorted.{IsPermutation}
use Rattle.std.proofs.lemmas.List.Sorted.{sum_by-IsPermutation, All-permutation, IsPermutation-sym}
use Rattle.std.proofs.lemmas.Grind.{get_or_default_zero}
use Rattle.page_file.specs.Pages.{has, are_pages}
use Rattle.page_file.proofs.Apart.{each_behind}
use Rattle.page_file.proofs.Times.{times_is, once, apart_if, has_times}

moved : (xs ys : List ℕ) → IsPermutation xs ys → are_pages xs ≡ true → are_pages ys ≡ true
moved xs ys permutes apart =
    let behind : All (λ n. 2 ≤ n) ys = All-permutation (λ n. 2 ≤ n) xs ys permutes (λ k d within. rw (get_or_default_zero xs k d within) (each_behind xs k apart within)) in
    apart_if ys (λ i within. behind i 0 within)
    (λ n. rw (sym (times_is n ys), sum_by-IsPermutation (λ m. if n == m then 1 else 0) xs ys permutes, times_is n xs) (once xs apart n))

both_ways : (a b : Bool) → (a ≡ true → b ≡ true) → (b ≡ true → a ≡ true) → a ≡ b
both_ways true true to from = refl
both_ways true false to from = sym (to refl)
both_ways false true to from = from refl
both_ways false false to from = refl

-- in another order they are pages or not, as before
pub permuted : (xs ys : List ℕ) → IsPermutation xs ys → are_pages ys ≡ are_pages xs
permuted xs ys permutes = both_ways (are_pages ys) (are_pages xs) (moved ys xs (IsPermutation-sym xs ys permutes)) (moved xs ys permutes)

-- and the same numbers are there
pub has_permuted : (n : ℕ) (xs ys : List ℕ) → IsPermutation xs ys → has n ys ≡ has n xs
has_permuted n xs ys permutes =
    has_times n ys ∙ ap (λ k. nat_lt 0 k) (sym (times_is n ys) ∙ sum_by-IsPermutation (λ m. if n == m then 1 else 0) xs ys permutes ∙ times_is n xs) ∙ sym (has_times n xs)
