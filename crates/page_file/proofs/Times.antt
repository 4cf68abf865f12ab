-- How often a number is among some.
use Rattle.std.proofs.Common.{◌≡◌, ℕ, zero, suc, ◌+◌, ◌<◌, ◌≤◌, Bool, true, false, ◌==◌, nat_le}
use Rattle.std.proofs.Common.{nat_lt, List, [], ◌∷◌, ◌++◌, length, get_or, take, drop, refl, sym}
use Rattle.std.proofs.Common.{ap, ◌∙◌, inl, inr, arith, if◌then◌else◌}
use Rattle.std.specs.List.{sum_by}
use Rattle.std.proofs.lemmas.List.Sums.{sum_by-cons}
use Rattle.std.proofs.lemmas.List.{take-append-drop}
use Rattle.std.proofs.lemmas.Bool.{or_cases}
use Rattle.std.proofs.lemmas.Bool.Decides.{nat_tests}
use Rattle.page_file.specs.Pages.{has, are_pages}
use Rattle.page_file.proofs.Apart.{first_behind, first_once, rest_apart}

-- how often a number is there
abbrev pub times : ℕ → List ℕ → ℕ
times n [] = 0
times n (m ∷ ms) = (if n == m then 1 else 0) + times n ms

pub times_is : (n : ℕ) (ns : List ℕ) → sum_by (λ m. if n == m then 1 else 0) ns ≡ times n ns
times_is n [] = refl
times_is n (m ∷ ms) = sum_by-cons (λ k. if n == k then 1 else 0) m ms ∙ ap (λ t. (if n == m then 1 else 0) + t) (times_is n ms)

pub never : (n : ℕ) (ns : List ℕ) → has n ns ≡ false → times n ns ≡ 0
never n [] lacks = refl
never n (m ∷ ms) lacks = let rest = never n ms (other n m ms lacks) in grind (arith, nat_tests)
  where
    other : (n m : ℕ) (ms : List ℕ) → has n (m ∷ ms) ≡ false → has n ms ≡ false
    other n m ms lacks = grind (arith, nat_tests)

pub some_times : (n : ℕ) (ns : List ℕ) → has n ns ≡ true → 1 ≤ times n ns
some_times n [] is = absurd cc
some_times n (m ∷ ms) is = elim (or_cases (n == m) (has n ms) is) [
  | inl same ↦ grind (arith, nat_tests)
  | inr later ↦ let rest = some_times n ms later in omega (arith, rest)
]

-- each page is there once
pub once : (ns : List ℕ) → are_pages ns ≡ true → (n : ℕ) → times n ns ≤ 1
once [] apart n = omega arith
once (m ∷ ms) apart n = by_test (n == m) refl (once ms (rest_apart m ms apart) n)
  where
    same_number : (n m : ℕ) → (n == m) ≡ true → n ≡ m
    same_number n m is = grind (arith, nat_tests)

    by_test : (t : Bool) → (n == m) ≡ t → times n ms ≤ 1 → (if n == m then 1 else 0) + times n ms ≤ 1
    by_test true is rest =
        let none : times n ms ≡ 0 = never n ms (ap (λ k. has k ms) (same_number n m is) ∙ first_once m ms apart) in
        rw (is, none) (omega arith)
    by_test false is rest = rw (is) (omega (arith, rest))

-- numbers behind the slots, each there once
pub apart_if : (ns : List ℕ) → ((i : ℕ) → i < length ns → 2 ≤ get_or ns i 0) → ((n : ℕ) → times n ns ≤ 1) → are_pages ns ≡ true
apart_if [] behind single = refl
apart_if (m ∷ ms) behind single =
    let rest = apart_if ms (λ i within. behind (suc i) (omega (arith, within))) (λ n. omega (arith, single n)) in
    let first : 2 ≤ m = behind 0 (omega arith) in
    let lacks : has m ms ≡ false = by_test (has m ms) refl in
    grind (arith, nat_tests)
  where
    here : (m : ℕ) → (m == m) ≡ true
    here m = grind (arith, nat_tests)

    by_test : (t : Bool) → has m ms ≡ t → has m ms ≡ false
    by_test true there =
        let more = some_times m ms there in
        let all : (if m == m then 1 else 0) + times m ms ≤ 1 = single m in
        let two : 1 + times m ms ≤ 1 = rw (here m) at all in
        absurd (omega (arith, more, two))
    by_test false lacks = lacks

-- it is one of them where it is there
pub has_times : (n : ℕ) (ns : List ℕ) → has n ns ≡ nat_lt 0 (times n ns)
has_times n ns = by_test (has n ns) refl
  where
    by_test : (t : Bool) → has n ns ≡ t → has n ns ≡ nat_lt 0 (times n ns)
    by_test true is = let some = some_times n ns is in is ∙ positive (times n ns) some
      where
        positive : (k : ℕ) → 1 ≤ k → true ≡ nat_lt 0 k
        positive k some = grind (arith, nat_tests)
    by_test false is = is ∙ sym (ap (nat_lt 0) (never n ns is))

pub times-append : (n : ℕ) (a b : List ℕ) → times n (a ++ b) ≡ times n a + times n b
times-append n [] b = omega arith
times-append n (m ∷ a) b = omega (arith, times-append n a b)

-- in two parts
pub times_parts : (n k : ℕ) (ns : List ℕ) → times n (take k ns) + times n (drop k ns) ≡ times n ns
times_parts n k ns = sym (times-append n (take k ns) (drop k ns)) ∙ ap (times n) (take-append-drop k ns)

-- pages are there once, and root slots aren't
pub page_times : (ns : List ℕ) → are_pages ns ≡ true → (n : ℕ) → times n ns ≤ (if nat_le 2 n then 1 else 0)
page_times ns apart n = by_test (nat_le 2 n) refl
  where
    by_test : (t : Bool) → nat_le 2 n ≡ t → times n ns ≤ (if nat_le 2 n then 1 else 0)
    by_test true is = rw (is) (once ns apart n)
    by_test false is = rw (is) (let low : n < 2 = grind (arith, nat_tests) in slot ns apart low)
      where
        slot : (ns : List ℕ) → are_pages ns ≡ true → n < 2 → times n ns ≤ 0
        slot [] apart low = omega arith
        slot (m ∷ ms) apart low =
            let rest = slot ms (rest_apart m ms apart) low in
            let behind = first_behind m ms apart in
            grind (arith, nat_tests)

-- and what is so is a list of pages
pub pages_by_times : (ns : List ℕ) → ((n : ℕ) → times n ns ≤ (if nat_le 2 n then 1 else 0)) → are_pages ns ≡ true
pages_by_times ns single = apart_if ns (λ i within. behind i within) (λ n. most n)
  where
    most : (n : ℕ) → times n ns ≤ 1
    most n = by_test (nat_le 2 n) refl
      where
        by_test : (t : Bool) → nat_le 2 n ≡ t → times n ns ≤ 1
        by_test true is = rw (is) at (single n)
        by_test false is = let none : times n ns ≤ 0 = rw (is) at (single n) in omega (arith, none)

    there : (ns : List ℕ) (i : ℕ) → i < length ns → 1 ≤ times (get_or ns i 0) ns
    there [] i within = absurd (omega (arith, within))
    there (m ∷ ms) zero within = here m (times m ms)
      where
        here : (m k : ℕ) → 1 ≤ (if m == m then 1 else 0) + k
        here m k = grind (arith, nat_tests)
    there (m ∷ ms) (suc i) within = omega (arith, there ms i (omega (arith, within)))

    behind : (i : ℕ) → i < length ns → 2 ≤ get_or ns i 0
    behind i within = by_test (nat_le 2 (get_or ns i 0)) refl
      where
        by_test : (t : Bool) → nat_le 2 (get_or ns i 0) ≡ t → 2 ≤ get_or ns i 0
        by_test true is = grind (arith, nat_tests)
        by_test false is = let none : times (get_or ns i 0) ns ≤ 0 = rw (is) at (single (get_or ns i 0)) in absurd (omega (arith, none, there ns i within))
