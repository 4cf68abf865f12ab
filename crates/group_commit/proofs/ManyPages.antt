-- Pages one behind the other, and the numbers in them.
use Rattle.std.proofs.Common.{◌≡◌, ℕ, zero, suc, ◌+◌, ◌-◌, ◌*◌, ◌<◌, ◌≤◌, ◌^◌, Bool, true, ◌==◌}
use Rattle.std.proofs.Common.{◌&&◌, All, List, [], ◌∷◌, ◌++◌, length, take, drop, refl, sym, ap}
use Rattle.std.proofs.Common.{◌∙◌, arith, length-append, length-take, length-drop, append_assoc}
use Rattle.std.specs.Prelude.{replicate}
use Rattle.std.specs.Int.{w32, from_be_bytes}
use Rattle.std.proofs.lemmas.Bool.Decides.{nat_tests, Decides-eqb}
use Rattle.std.proofs.lemmas.List.{drop-drop, drop_at, take-append-le, drop-append-le, take-append-drop, take-replicate, drop-replicate}
use Rattle.page_file.specs.Pages.{page, pages, are_whole, is_zero, joined, numbers, number_bytes}
use Rattle.page_file.proofs.NumberLemmas.{numbers_again, length-number_bytes}
use Rattle.group_commit.specs.Image.{entries}
use Rattle.group_commit.specs.Standing.{ReadAs}

pub joined-append : (a b : List (List ℕ)) → joined (a ++ b) ≡ joined a ++ joined b
joined-append [] b = refl
joined-append (x ∷ xs) b = ap (λ r. x ++ r) (joined-append xs b) ∙ sym (append_assoc x (joined xs) (joined b))

pub pages-append : (a b file : List ℕ) → pages (a ++ b) file ≡ pages a file ++ pages b file
pages-append [] b file = refl
pages-append (n ∷ ns) b file = ap (λ r. page n file ∷ r) (pages-append ns b file)

pub length-pages : (ns file : List ℕ) → length (pages ns file) ≡ length ns
length-pages [] file = refl
length-pages (n ∷ ns) file = let rest = length-pages ns file in omega (arith, rest)

-- parts of the test that pages are whole
pub first_whole : (p : List ℕ) (ps : List (List ℕ)) → are_whole (p ∷ ps) ≡ true → length p ≡ 4096
first_whole p ps whole = grind (arith, nat_tests)

pub rest_whole : (p : List ℕ) (ps : List (List ℕ)) → are_whole (p ∷ ps) ≡ true → are_whole ps ≡ true
rest_whole p ps whole = grind (arith, nat_tests)

pub both_whole : (p : List ℕ) (ps : List (List ℕ)) → length p ≡ 4096 → are_whole ps ≡ true → are_whole (p ∷ ps) ≡ true
both_whole p ps size whole = by_test (length p == 4096) (Decides-eqb (length p) 4096).1 size
  where
    by_test : (t : Bool) → (length p ≡ 4096 → t ≡ true) → length p ≡ 4096 → (t && are_whole ps) ≡ true
    by_test t is size = rw (is size) whole

pub length-joined : (ps : List (List ℕ)) → are_whole ps ≡ true → length (joined ps) ≡ 4096 * length ps
length-joined [] whole = refl
length-joined (p ∷ ps) whole =
    let rest = length-joined ps (rest_whole p ps whole) in
    omega (arith, length-append p (joined ps), first_whole p ps whole, rest)

-- the first of some bytes and of those behind them
pub take_behind : (p q : List ℕ) (m k n : ℕ) → length p ≡ m → n ≡ m + k → take n (p ++ q) ≡ p ++ take k q
take_behind [] q m k n size is = ap (λ j. take j q) (omega (arith, size, is))
take_behind (x ∷ xs) q zero k n size is = absurd (omega (arith, size))
take_behind (x ∷ xs) q (suc m) k zero size is = absurd (omega (arith, is))
take_behind (x ∷ xs) q (suc m) k (suc n) size is = ap (λ r. x ∷ r) (take_behind xs q m k n (omega (arith, size)) (omega (arith, is)))

-- the first pages are the first bytes
pub joined-take : (ns file : List ℕ) (k : ℕ) → are_whole (pages ns file) ≡ true → k ≤ length ns
    → joined (pages (take k ns) file) ≡ take (4096 * k) (joined (pages ns file))
joined-take ns file zero whole within = refl
joined-take [] file (suc k) whole within = absurd (omega (arith, within))
joined-take (n ∷ ns) file (suc k) whole within =
    let size = first_whole (page n file) (pages ns file) whole in
    let rest = joined-take ns file k (rest_whole (page n file) (pages ns file) whole) (omega (arith, within)) in
    ap (λ r. page n file ++ r) rest ∙ sym (take_behind (page n file) (joined (pages ns file)) 4096 (4096 * k) (4096 * suc k) size (omega arith))

pub whole-take : (ns file : List ℕ) (k : ℕ) → are_whole (pages ns file) ≡ true → are_whole (pages (take k ns) file) ≡ true
whole-take ns file zero whole = refl
whole-take [] file (suc k) whole = refl
whole-take (n ∷ ns) file (suc k) whole =
    both_whole (page n file) (pages (take k ns) file) (first_whole (page n file) (pages ns file) whole)
    (whole-take ns file k (rest_whole (page n file) (pages ns file) whole))

-- pages that read as they were written are whole, and one behind the other what was written
pub reads_joined : (ns fresh file : List ℕ) → length fresh ≡ 4096 * length ns → ReadAs (length ns) ns fresh file
    → (are_whole (pages ns file) ≡ true) × (joined (pages ns file) ≡ fresh)
reads_joined [] fresh file size reads = (refl, sym (none fresh size))
  where
    none : (xs : List ℕ) → length xs ≡ 0 → xs ≡ []
    none [] size = refl
    none (x ∷ xs) size = absurd (omega (arith, size))
reads_joined (n ∷ ns) fresh file size reads =
    let first : page n file ≡ take 4096 fresh = reads 0 (omega arith) in
    let long : length (take 4096 fresh) ≡ 4096 = omega (arith, length-take 4096 fresh, size) in
    let rest = reads_joined ns (drop 4096 fresh) file (omega (arith, length-drop 4096 fresh, size)) (λ i below.
    reads (suc i) (omega (arith, below)) ∙ ap (take 4096) (ap (λ k. drop k fresh) (place i) ∙ sym (drop-drop (4096 * i) 4096 fresh))) in (
      both_whole (page n file) (pages ns file) (ap length first ∙ long) rest.0,
      ap (λ p. p ++ joined (pages ns file)) first ∙ ap (λ r. take 4096 fresh ++ r) rest.1 ∙ take-append-drop 4096 fresh,
    )
  where
    place : (i : ℕ) → 4096 * suc i ≡ 4096 + 4096 * i
    place i = omega arith

-- the numbers at the front of bytes and those behind them
pub numbers-append : (m n : ℕ) (bytes : List ℕ) → numbers (m + n) bytes ≡ numbers m bytes ++ numbers n (drop (4 * m) bytes)
numbers-append zero n bytes = let all : 0 + n ≡ n = omega arith in ap (λ k. numbers k bytes) all
numbers-append (suc m) n bytes =
    let more : suc m + n ≡ suc (m + n) = omega arith in
    ap (λ k. numbers k bytes) more
    ∙ ap (λ r. from_be_bytes w32 (take 4 bytes) ∷ r) (numbers-append m n (drop 4 bytes)
    ∙ ap (λ r. numbers m (drop 4 bytes) ++ r) (ap (numbers n) (drop-drop (4 * m) 4 bytes ∙ ap (λ k. drop k bytes) (place m))))
  where
    place : (m : ℕ) → 4 + 4 * m ≡ 4 * suc m
    place m = omega arith

pub numbers-front : (m : ℕ) (a b : List ℕ) → 4 * m ≤ length a → numbers m (a ++ b) ≡ numbers m a
numbers-front zero a b within = refl
numbers-front (suc m) a b within =
    let first : take 4 (a ++ b) ≡ take 4 a = take-append-le 4 a b (omega (arith, within)) in
    let rest : drop 4 (a ++ b) ≡ drop 4 a ++ b = drop-append-le 4 a b (omega (arith, within)) in
    ap (λ f. from_be_bytes w32 f ∷ numbers m (drop 4 (a ++ b))) first
    ∙ ap (λ f. from_be_bytes w32 (take 4 a) ∷ numbers m f) rest
    ∙ ap (λ r. from_be_bytes w32 (take 4 a) ∷ r) (numbers-front m (drop 4 a) b (omega (arith, within, length-drop 4 a)))

-- the numbers in whole pages are those of their bytes
pub entries_joined : (ts : List (List ℕ)) → are_whole ts ≡ true → entries ts ≡ numbers (1024 * length ts) (joined ts)
entries_joined [] whole = refl
entries_joined (t ∷ ts) whole =
    let size = first_whole t ts whole in
    let more : 1024 * suc (length ts) ≡ 1024 + 1024 * length ts = omega arith in
    let front = numbers-front 1024 t (joined ts) (omega (arith, size)) in
    let behind : drop (4 * 1024) (t ++ joined ts) ≡ joined ts = drop_at t (joined ts) 4096 size in
    ap (λ r. numbers 1024 t ++ r) (entries_joined ts (rest_whole t ts whole))
    ∙ sym (ap (λ k. numbers k (t ++ joined ts)) more ∙ numbers-append 1024 (1024 * length ts) (t ++ joined ts)
    ∙ ap (λ f. f ++ numbers (1024 * length ts) (drop (4 * 1024) (t ++ joined ts))) front
    ∙ ap (λ r. numbers 1024 t ++ numbers (1024 * length ts) r) behind)

-- zeros are numbers that are zero
numbers-zeros : (n m : ℕ) → 4 * n ≤ m → numbers n (replicate m 0) ≡ replicate n 0
numbers-zeros zero m within = refl
numbers-zeros (suc n) m within =
    let first : take 4 (replicate {A = ℕ} m 0) ≡ replicate 4 0 = take-replicate {X = ℕ} 4 m 0 (omega (arith, within)) in
    let rest = numbers-zeros n (m - 4) (omega (arith, within)) in
    rw (first, drop-replicate {X = ℕ} 4 m 0) (ap (λ r. 0 ∷ r) rest)

-- numbers that were written, and zeros behind them
pub numbers_written : (ns : List ℕ) (k m : ℕ) → All (λ n. n < 2 ^ 32) ns → 4 * k ≤ m → numbers (length ns + k) (number_bytes ns ++ replicate m 0) ≡ ns ++ replicate k 0
numbers_written ns k m below within =
    numbers-append (length ns) k (number_bytes ns ++ replicate m 0)
    ∙ ap (λ r. r ++ numbers k (drop (4 * length ns) (number_bytes ns ++ replicate m 0))) (numbers_again ns (replicate m 0) below)
    ∙ ap (λ r. ns ++ numbers k r) (drop_at (number_bytes ns) (replicate m 0) (4 * length ns) (length-number_bytes ns))
    ∙ ap (λ r. ns ++ r) (numbers-zeros k m within)

-- what is zero is as many zeros
pub zeros_are : (xs : List ℕ) → is_zero xs ≡ true → xs ≡ replicate (length xs) 0
zeros_are [] zero_all = refl
zeros_are (x ∷ xs) zero_all = cong2 (first_zero x xs zero_all) (zeros_are xs (rest_zero x xs zero_all))
  where
    first_zero : (x : ℕ) (xs : List ℕ) → is_zero (x ∷ xs) ≡ true → x ≡ 0
    first_zero x xs is = grind (arith, nat_tests)

    rest_zero : (x : ℕ) (xs : List ℕ) → is_zero (x ∷ xs) ≡ true → is_zero xs ≡ true
    rest_zero x xs is = grind (arith, nat_tests)

    cong2 : {p q : ℕ} {ps qs : List ℕ} → p ≡ q → ps ≡ qs → p ∷ ps ≡ q ∷ qs
    cong2 {p} {q} {ps} {qs} one rest = ap (λ x. x ∷ ps) one ∙ ap (λ xs. q ∷ xs) rest
