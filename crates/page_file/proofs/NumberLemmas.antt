-- Numbers of four bytes each: what was written is read back.
use Rattle.std.proofs.Common.{◌≡◌, ℕ, ◌*◌, ◌+◌, ◌-◌, ◌<◌, ◌^◌, List, [], ◌∷◌, ◌++◌, All, length, take, drop, suc, refl, sym, ap, ◌∙◌, arith, append_assoc}
use Rattle.std.specs.Int.{w32, from_be_bytes, to_be_bytes}
use Rattle.std.proofs.lemmas.List.{take_at, drop_at, length-append}
use Rattle.std.proofs.lemmas.Nat.{from_be_bytes-to_be_bytes_4}
use Rattle.page_file.specs.Pages.{numbers, number_bytes}

pub length-to_be_bytes : (n : ℕ) → length (to_be_bytes w32 n) ≡ 4
length-to_be_bytes n = refl

-- each number takes four bytes
pub length-number_bytes : (ns : List ℕ) → length (number_bytes ns) ≡ 4 * length ns
length-number_bytes [] = refl
length-number_bytes (n ∷ ns) =
    omega (arith, length-append (to_be_bytes w32 n) (number_bytes ns), length-to_be_bytes n, length-number_bytes ns)

-- the first number is read back, whatever follows
number_again : (n : ℕ) (rest : List ℕ) → n < 2 ^ 32 → from_be_bytes w32 (take 4 (to_be_bytes w32 n ++ rest)) ≡ n
number_again n rest small =
    ap (from_be_bytes w32) (take_at (to_be_bytes w32 n) rest 4 (length-to_be_bytes n)) ∙ from_be_bytes-to_be_bytes_4 n small

-- numbers that were written are read back
pub numbers_again : (ns rest : List ℕ) → All (λ n. n < 2 ^ 32) ns → numbers (length ns) (number_bytes ns ++ rest) ≡ ns
numbers_again [] rest small = refl
numbers_again (n ∷ ns) rest small =
    let next = numbers_again ns rest (λ k d below. small (suc k) d (omega (arith, below))) in
    let first = number_again n (number_bytes ns ++ rest) (small 0 0 (omega arith)) in
    let others : drop 4 (to_be_bytes w32 n ++ (number_bytes ns ++ rest)) ≡ number_bytes ns ++ rest =
    drop_at (to_be_bytes w32 n) (number_bytes ns ++ rest) 4 (length-to_be_bytes n) in
    ap (numbers (suc (length ns))) (append_assoc (to_be_bytes w32 n) (number_bytes ns) rest)
    ∙ (λ i. first i ∷ (ap (numbers (length ns)) others ∙ next) i)

-- the numbers that are left are the first of them and the others
pub numbers_step : (count done : ℕ) (bytes : List ℕ) → done < count
    → numbers (count - done) bytes ≡ from_be_bytes w32 (take 4 bytes) ∷ numbers (count - (done + 1)) (drop 4 bytes)
numbers_step count done bytes below =
    let left : count - done ≡ suc (count - (done + 1)) = omega (arith, below) in
    ap (λ n. numbers n bytes) left

-- one number more is read
pub numbers_on : (found : List ℕ) (count done : ℕ) (bytes whole : List ℕ) → done < count → found ++ numbers (count - done) bytes ≡ whole
    → (found ++ from_be_bytes w32 (take 4 bytes) ∷ []) ++ numbers (count - (done + 1)) (drop 4 bytes) ≡ whole
numbers_on found count done bytes whole below is =
    append_assoc found (from_be_bytes w32 (take 4 bytes) ∷ []) _ ∙ ap (λ ns. found ++ ns) (sym (numbers_step count done bytes below)) ∙ is
