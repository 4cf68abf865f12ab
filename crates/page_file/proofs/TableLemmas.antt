-- The numbers at the front of many, and those behind them.
use Rattle.std.proofs.Common.{◌≡◌, ℕ, zero, suc, ◌+◌, ◌-◌, ◌*◌, ◌≤◌, true, List, ◌∷◌, length, take, drop, refl, ap, ◌∙◌, arith}
use Rattle.std.proofs.lemmas.List.{drop-drop, take-replicate, drop-replicate}
use Rattle.std.specs.Prelude.{replicate}
use Rattle.std.specs.Int.{w32, from_be_bytes}
use Rattle.page_file.specs.Pages.{numbers, is_zero}

pub take-numbers : (k n : ℕ) (bytes : List ℕ) → k ≤ n → take k (numbers n bytes) ≡ numbers k bytes
take-numbers zero n bytes within = refl
take-numbers (suc k) zero bytes within = absurd (omega (arith, within))
take-numbers (suc k) (suc n) bytes within =
    ap (λ ns. from_be_bytes w32 (take 4 bytes) ∷ ns) (take-numbers k n (drop 4 bytes) (omega (arith, within)))

pub drop-numbers : (k n : ℕ) (bytes : List ℕ) → k ≤ n → drop k (numbers n bytes) ≡ numbers (n - k) (drop (4 * k) bytes)
drop-numbers zero n bytes within = let all : n ≡ n - 0 = omega arith in ap (λ m. numbers m bytes) all
drop-numbers (suc k) zero bytes within = absurd (omega (arith, within))
drop-numbers (suc k) (suc n) bytes within =
    let place : 4 + 4 * k ≡ 4 * suc k = omega arith in
    let fewer : n - k ≡ suc n - suc k = omega arith in
    drop-numbers k n (drop 4 bytes) (omega (arith, within))
    ∙ ap (numbers (n - k)) (drop-drop (4 * k) 4 bytes ∙ ap (λ m. drop m bytes) place)
    ∙ ap (λ m. numbers m (drop (4 * suc k) bytes)) fewer

-- zeros are numbers that are zero
pub zero-numbers : (n m : ℕ) → 4 * n ≤ m → is_zero (numbers n (replicate m 0)) ≡ true
zero-numbers zero m within = refl
zero-numbers (suc n) m within =
    let first : take 4 (replicate m 0) ≡ replicate 4 0 = take-replicate {X = ℕ} 4 m 0 (omega (arith, within)) in
    let rest = zero-numbers n (m - 4) (omega (arith, within)) in
    rw (first, drop-replicate {X = ℕ} 4 m 0) rest

pub zero-replicate : (n : ℕ) → is_zero (replicate n 0) ≡ true
zero-replicate zero = refl
zero-replicate (suc n) = zero-replicate n

-- n numbers are read
pub length-numbers : (n : ℕ) (bytes : List ℕ) → length (numbers n bytes) ≡ n
length-numbers zero bytes = refl
length-numbers (suc n) bytes = ap suc (length-numbers n (drop 4 bytes))
