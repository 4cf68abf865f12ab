-- Zeros behind bytes, and bytes that come in their place.
use Rattle.std.proofs.Common.{◌≡◌, ℕ, zero, suc, ◌+◌, ◌-◌, ◌≤◌, true, List, [], ◌∷◌, ◌++◌, length}
use Rattle.std.proofs.Common.{get_or, take, drop, refl, sym, ap, ◌∙◌, arith, length-append}
use Rattle.std.proofs.Common.{append_assoc}
use Rattle.std.specs.Prelude.{replicate}
use Rattle.std.proofs.Math.Seq.{take-append-add, drop-append_seam}
use Rattle.std.proofs.lemmas.Bool.Decides.{nat_tests}
use Rattle.std.proofs.lemmas.List.{take-replicate}
use Rattle.page_file.specs.Pages.{is_zero}

first_zero : (x : ℕ) (xs : List ℕ) → is_zero (x ∷ xs) ≡ true → x ≡ 0
first_zero x xs is = grind (arith, nat_tests)

rest_zero : (x : ℕ) (xs : List ℕ) → is_zero (x ∷ xs) ≡ true → is_zero xs ≡ true
rest_zero x xs is = grind (arith, nat_tests)

both_zero : (x : ℕ) (xs : List ℕ) → x ≡ 0 → is_zero xs ≡ true → is_zero (x ∷ xs) ≡ true
both_zero x xs one rest = grind (arith, nat_tests)

-- bytes that are zero, in front of zeros
zeros_front : (k z : ℕ) (r : List ℕ) → k ≤ length r + z → is_zero (take k r) ≡ true → take k (r ++ replicate z 0) ≡ replicate k 0
zeros_front zero z r within is = refl
zeros_front (suc k) z [] within is = take-replicate {X = ℕ} (suc k) z 0 (omega (arith, within))
zeros_front (suc k) z (x ∷ xs) within is =
    ap (λ y. y ∷ take k (xs ++ replicate z 0)) (first_zero x (take k xs) is)
    ∙ ap (λ ys. 0 ∷ ys) (zeros_front k z xs (omega (arith, within)) (rest_zero x (take k xs) is))

zeros_there : (k z : ℕ) (r : List ℕ) → take k (r ++ replicate z 0) ≡ replicate k 0 → is_zero (take k r) ≡ true
zeros_there zero z r same = refl
zeros_there (suc k) z [] same = refl
zeros_there (suc k) z (x ∷ xs) same = both_zero x (take k xs) (ap (λ ys. get_or ys 0 0) same) (zeros_there k z xs (ap (drop 1) same))

-- the bytes up to a place behind their end
take_behind : (n : ℕ) (s x : List ℕ) → length s ≤ n → take n (s ++ x) ≡ s ++ take (n - length s) x
take_behind n s x behind =
    let place : n ≡ length s + (n - length s) = omega (arith, behind) in
    ap (λ k. take k (s ++ x)) place ∙ take-append-add s x (n - length s)

-- up to a place behind their end, bytes stay the same where zeros come there
pub same_zeros : (n z z' : ℕ) (s r : List ℕ) → length s ≤ n → n ≤ length s + z → n ≤ length (s ++ r) + z' → is_zero (take (n - length s) r) ≡ true
    → take n (s ++ replicate z 0) ≡ take n ((s ++ r) ++ replicate z' 0)
same_zeros n z z' s r behind within within' is =
    take_behind n s (replicate z 0) behind
    ∙ ap (λ x. s ++ x) (take-replicate {X = ℕ} (n - length s) z 0 (omega (arith, within))
    ∙ sym (zeros_front (n - length s) z' r (omega (arith, within', length-append s r)) is))
    ∙ sym (ap (take n) (append_assoc s r (replicate z' 0)) ∙ take_behind n s (r ++ replicate z' 0) behind)

-- and only there
pub zeros_same : (n z z' : ℕ) (s r : List ℕ) → length s ≤ n → n ≤ length s + z
    → take n (s ++ replicate z 0) ≡ take n ((s ++ r) ++ replicate z' 0) → is_zero (take (n - length s) r) ≡ true
zeros_same n z z' s r behind within same =
    let both : s ++ replicate (n - length s) 0 ≡ s ++ take (n - length s) (r ++ replicate z' 0) =
    sym (take_behind n s (replicate z 0) behind ∙ ap (λ x. s ++ x) (take-replicate {X = ℕ} (n - length s) z 0 (omega (arith, within))))
    ∙ same ∙ ap (take n) (append_assoc s r (replicate z' 0)) ∙ take_behind n s (r ++ replicate z' 0) behind in
    zeros_there (n - length s) z' r
    (sym (sym (drop-append_seam s (replicate (n - length s) 0)) ∙ ap (drop (length s)) both ∙ drop-append_seam s (take (n - length s) (r ++ replicate z' 0))))

pub zero-append : (a b : List ℕ) → is_zero (a ++ b) ≡ true → is_zero b ≡ true
zero-append [] b is = is
zero-append (x ∷ xs) b is = zero-append xs b (rest_zero x (xs ++ b) is)
