-- Numbers of pages: which are among some, and that none is there twice.
use Rattle.std.proofs.Common.{◌≡◌, ◌≢◌, ℕ, zero, suc, ◌+◌, ◌<◌, ◌≤◌, Bool, true, false, ◌||◌, ◌==◌}
use Rattle.std.proofs.Common.{List, [], ◌∷◌, ◌++◌, length, get_or, take, refl, sym, ap, ◌∙◌, inl}
use Rattle.std.proofs.Common.{inr, arith}
use Rattle.std.proofs.lemmas.Bool.Decides.{nat_tests, eqb_tells}
use Rattle.std.proofs.lemmas.List.{take_more}
use Rattle.page_file.specs.Pages.{has, are_pages}

-- parts of the test on the first number
pub first_behind : (n : ℕ) (ns : List ℕ) → are_pages (n ∷ ns) ≡ true → 2 ≤ n
first_behind n ns apart = grind (arith, nat_tests)

pub first_once : (n : ℕ) (ns : List ℕ) → are_pages (n ∷ ns) ≡ true → has n ns ≡ false
first_once n ns apart = grind (arith, nat_tests)

pub rest_apart : (n : ℕ) (ns : List ℕ) → are_pages (n ∷ ns) ≡ true → are_pages ns ≡ true
rest_apart n ns apart = grind (arith, nat_tests)

-- each of some numbers is among them
pub has_each : (ns : List ℕ) (k : ℕ) → k < length ns → has (get_or ns k 0) ns ≡ true
has_each [] k within = absurd (omega (arith, within))
has_each (n ∷ ns) zero within = grind (arith, nat_tests)
has_each (n ∷ ns) (suc k) within = let rest = has_each ns k (omega (arith, within)) in grind (arith, nat_tests)

pub has-append : (n : ℕ) (ms ns : List ℕ) → has n (ms ++ ns) ≡ (has n ms || has n ns)
has-append n [] ns = refl
has-append n (m ∷ ms) ns = let rest = has-append n ms ns in grind (arith, nat_tests)

-- a number among them isn't one that isn't
pub other_than : (n m : ℕ) (ns : List ℕ) → has n ns ≡ false → has m ns ≡ true → n ≢ m
other_than n m ns lacks is_there same = let absent : has m ns ≡ false = ap (λ x. has x ns) (sym same) ∙ lacks in absurd cc

-- of numbers of pages no two are the same
pub no_two : (ns : List ℕ) (i k : ℕ) → are_pages ns ≡ true → i < k → k < length ns → get_or ns i 0 ≢ get_or ns k 0
no_two [] i k apart below within = absurd (omega (arith, within))
no_two (n ∷ ns) i zero apart below within = absurd (omega (arith, below))
no_two (n ∷ ns) zero (suc k) apart below within =
    other_than n (get_or ns k 0) ns (first_once n ns apart) (has_each ns k (omega (arith, within)))
no_two (n ∷ ns) (suc i) (suc k) apart below within = no_two ns i k (rest_apart n ns apart) (omega (arith, below)) (omega (arith, within))

pub each_behind : (ns : List ℕ) (i : ℕ) → are_pages ns ≡ true → i < length ns → 2 ≤ get_or ns i 0
each_behind [] i apart within = absurd (omega (arith, within))
each_behind (n ∷ ns) zero apart within = first_behind n ns apart
each_behind (n ∷ ns) (suc i) apart within = each_behind ns i (rest_apart n ns apart) (omega (arith, within))

-- two lists with no number in common and none twice
pub apart_first : (ms ns : List ℕ) → are_pages (ms ++ ns) ≡ true → are_pages ms ≡ true
apart_first [] ns apart = refl
apart_first (m ∷ ms) ns apart =
    let rest = apart_first ms ns (rest_apart m (ms ++ ns) apart) in
    let once = first_once m (ms ++ ns) apart in
    let behind = first_behind m (ms ++ ns) apart in
    let split = has-append m ms ns in
    grind (arith, nat_tests)

pub apart_second : (ms ns : List ℕ) → are_pages (ms ++ ns) ≡ true → are_pages ns ≡ true
apart_second [] ns apart = apart
apart_second (m ∷ ms) ns apart = apart_second ms ns (rest_apart m (ms ++ ns) apart)

pub apart_each : (ms ns : List ℕ) (k : ℕ) → are_pages (ms ++ ns) ≡ true → k < length ms → has (get_or ms k 0) ns ≡ false
apart_each [] ns k apart within = absurd (omega (arith, within))
apart_each (m ∷ ms) ns zero apart within =
    let once = first_once m (ms ++ ns) apart in let split = has-append m ms ns in grind (arith, nat_tests)
apart_each (m ∷ ms) ns (suc k) apart within = apart_each ms ns k (rest_apart m (ms ++ ns) apart) (omega (arith, within))

-- a number among some stands at a place
pub place_of : (n : ℕ) (ns : List ℕ) → has n ns ≡ true → (i : ℕ) × (i < length ns) × (get_or ns i 0 ≡ n)
place_of n [] is_there = absurd cc
place_of n (m ∷ ms) is_there = elim (eqb_tells n m) [
  | inl is ↦ (0, omega arith, sym is.1)
  | inr other ↦ let rest = place_of n ms (grind (arith, nat_tests)) in (suc rest.0, omega (arith, rest.1), rest.2)
]

-- among one number more
pub has_more : (m : ℕ) (ns : List ℕ) (i : ℕ) → i < length ns → has m (take (i + 1) ns) ≡ (has m (take i ns) || m == get_or ns i 0)
has_more m ns i within =
    ap (has m) (take_more ns i 0 within) ∙ has-append m (take i ns) (get_or ns i 0 ∷ []) ∙ one (has m (take i ns)) (m == get_or ns i 0)
  where
    one : (a b : Bool) → (a || (b || false)) ≡ (a || b)
    one true b = refl
    one false true = refl
    one false false = refl

-- one number more between others
pub put_apart : (n : ℕ) (fs used : List ℕ) → are_pages (fs ++ used) ≡ true → 2 ≤ n → has n fs ≡ false → has n used ≡ false
    → are_pages (fs ++ n ∷ used) ≡ true
put_apart n [] used apart behind lacks free = grind (arith, nat_tests)
put_apart n (f ∷ fs) used apart behind lacks free =
    let rest = put_apart n fs used (rest_apart f (fs ++ used) apart) behind (grind (arith, nat_tests)) free in
    let once = first_once f (fs ++ used) apart in
    let above = first_behind f (fs ++ used) apart in
    let split = has-append f fs used in
    let joined = has-append f fs (n ∷ used) in
    grind (arith, nat_tests)
