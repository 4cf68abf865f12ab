-- Where numbers change, and to what.
use Rattle.std.proofs.Common.{◌≡◌, ℕ, zero, suc, ◌+◌, ◌<◌, ◌≤◌, true, false, nat_lt, List, [], ◌∷◌, ◌++◌}
use Rattle.std.proofs.Common.{length, get_or, take, refl, sym, ap, ◌∙◌, inl, inr, arith}
use Rattle.std.specs.Prelude.{◌==◌}
use Rattle.std.specs.List.Sorted.{IsNonDecreasing}
use Rattle.std.proofs.lemmas.Bool.{cases_Bool, eqb-true}
use Rattle.std.proofs.lemmas.Bool.Decides.{nat_tests}
use Rattle.std.proofs.lemmas.List.{get_or_default}
use Rattle.run_list.specs.Reading.{below}
use Rattle.run_list.proofs.Counting.{counted_below}
use Rattle.run_list.specs.Column.{change_starts, changes_behind, number_behind}

pub length-changes : (last at : ℕ) (ns : List ℕ) → length (changes_behind last ns) ≡ length (change_starts last at ns)
length-changes last at [] = refl
length-changes last at (n ∷ ns) =
    elim (cases_Bool (n == last)) [
      | inl same ↦ rw same (length-changes n (suc at) ns)
      | inr other ↦ rw other (ap suc (length-changes n (suc at) ns))
    ]

-- the first ones

-- all of these stand from there on
none_below : (n at last : ℕ) (ns : List ℕ) → n ≤ at → below n (change_starts last at ns) ≡ 0
none_below n at last [] le = refl
none_below n at last (x ∷ xs) le =
    elim (cases_Bool (x == last)) [
      | inl same ↦ rw same (none_below n (suc at) x xs (omega arith))
      | inr other ↦ let upper : nat_lt at n ≡ false = grind (arith, nat_tests) in rw (other, upper) refl
    ]

pub below-starts : (n at end last : ℕ) (ns : List ℕ) → end ≡ at + n
    → below end (change_starts last at ns) ≡ length (change_starts last at (take n ns))
below-starts zero at end last ns is = none_below end at last ns (omega arith)
below-starts (suc n) at end last [] is = refl
below-starts (suc n) at end last (x ∷ xs) is =
    let rest = below-starts n (suc at) end x xs (omega arith) in
    elim (cases_Bool (x == last)) [
      | inl same ↦ rw same rest
      | inr other ↦ let lower : nat_lt at end ≡ true = grind (arith, nat_tests) in rw (other, lower) (ap suc rest)
    ]

pub starts-take : (n at last : ℕ) (ns : List ℕ)
    → take (length (change_starts last at (take n ns))) (change_starts last at ns) ≡ change_starts last at (take n ns)
starts-take zero at last ns = refl
starts-take (suc n) at last [] = refl
starts-take (suc n) at last (x ∷ xs) =
    elim (cases_Bool (x == last)) [
      | inl same ↦ rw same (starts-take n (suc at) x xs)
      | inr other ↦ rw other (ap (λ (ss : List ℕ). at ∷ ss) (starts-take n (suc at) x xs))
    ]

pub changes-take : (n at last : ℕ) (ns : List ℕ)
    → take (length (change_starts last at (take n ns))) (changes_behind last ns) ≡ changes_behind last (take n ns)
changes-take zero at last ns = refl
changes-take (suc n) at last [] = refl
changes-take (suc n) at last (x ∷ xs) =
    elim (cases_Bool (x == last)) [
      | inl same ↦ rw same (changes-take n (suc at) x xs)
      | inr other ↦ rw other (ap (λ (cs : List ℕ). x ∷ cs) (changes-take n (suc at) x xs))
    ]

-- one more

pub changes-same : (last : ℕ) (ns : List ℕ) (m : ℕ) → (m == number_behind last ns) ≡ true → changes_behind last (ns ++ m ∷ []) ≡ changes_behind last ns
changes-same last [] m same = rw same refl
changes-same last (n ∷ ns) m same =
    let rest = changes-same n ns m same in
    elim (cases_Bool (n == last)) [ inl lower ↦ rw lower rest | inr upper ↦ rw upper (ap (λ (cs : List ℕ). n ∷ cs) rest) ]

pub changes-more : (last : ℕ) (ns : List ℕ) (m : ℕ) → (m == number_behind last ns) ≡ false
    → changes_behind last (ns ++ m ∷ []) ≡ changes_behind last ns ++ m ∷ []
changes-more last [] m other = rw other refl
changes-more last (n ∷ ns) m other =
    let rest = changes-more n ns m other in
    elim (cases_Bool (n == last)) [ inl lower ↦ rw lower rest | inr upper ↦ rw upper (ap (λ (cs : List ℕ). n ∷ cs) rest) ]

pub starts-same : (last at : ℕ) (ns : List ℕ) (m : ℕ) → (m == number_behind last ns) ≡ true → change_starts last at (ns ++ m ∷ []) ≡ change_starts last at ns
starts-same last at [] m same = rw same refl
starts-same last at (n ∷ ns) m same =
    let rest = starts-same n (suc at) ns m same in
    elim (cases_Bool (n == last)) [ inl lower ↦ rw lower rest | inr upper ↦ rw upper (ap (λ (ss : List ℕ). at ∷ ss) rest) ]

pub starts-more : (last at end : ℕ) (ns : List ℕ) (m : ℕ) → end ≡ at + length ns → (m == number_behind last ns) ≡ false
    → change_starts last at (ns ++ m ∷ []) ≡ change_starts last at ns ++ end ∷ []
starts-more last at end [] m is other = let here : end ≡ at = omega arith in rw (other, here) refl
starts-more last at end (n ∷ ns) m is other =
    let rest = starts-more n (suc at) end ns m (omega arith) other in
    elim (cases_Bool (n == last)) [ inl lower ↦ rw lower rest | inr upper ↦ rw upper (ap (λ (ss : List ℕ). at ∷ ss) rest) ]

-- the last change made the last number

pub last-change : (last : ℕ) (ns : List ℕ) → number_behind last (changes_behind last ns) ≡ number_behind last ns
last-change last [] = refl
last-change last (n ∷ ns) =
    elim (cases_Bool (n == last)) [
      | inl same ↦ rw same (ap (λ (l : ℕ). number_behind l (changes_behind n ns)) (sym (eqb-true n last same)) ∙ last-change n ns)
      | inr other ↦ rw other (last-change n ns)
    ]

-- the places of the changes rise

first_or_behind : (at : ℕ) (ss : List ℕ) → ((i d : ℕ) → i < length ss → suc at ≤ get_or ss i d) → (i d : ℕ) → i < length (at ∷ ss)
    → at ≤ get_or (at ∷ ss) i d
first_or_behind at ss behind zero d lt = omega arith
first_or_behind at ss behind (suc i) d lt = let rest = behind i d (omega arith) in omega arith

from_there : (last at : ℕ) (ns : List ℕ) (i d : ℕ) → i < length (change_starts last at ns) → at ≤ get_or (change_starts last at ns) i d
from_there last at [] i d lt = absurd (omega arith)
from_there last at (n ∷ ns) i d lt =
    elim (cases_Bool (n == last)) [
      | inl same ↦
          let inside : i < length (change_starts n (suc at) ns) = rw same at lt in
          let rest = from_there n (suc at) ns i d inside in
          rw same (omega arith)
      | inr other ↦
          let inside : i < length (at ∷ change_starts n (suc at) ns) = rw other at lt in
          rw other (first_or_behind at (change_starts n (suc at) ns) (from_there n (suc at) ns) i d inside)
    ]

rising_behind : (at : ℕ) (ss : List ℕ) → ((i d : ℕ) → i < length ss → at ≤ get_or ss i d) → IsNonDecreasing ss → IsNonDecreasing (at ∷ ss)
rising_behind at ss above rise zero zero d le lt = omega arith
rising_behind at ss above rise zero (suc j) d le lt = above j d (omega arith)
rising_behind at ss above rise (suc i) zero d le lt = absurd (omega arith)
rising_behind at ss above rise (suc i) (suc j) d le lt = rise i j d (omega arith) (omega arith)

pub starts_rise : (last at : ℕ) (ns : List ℕ) → IsNonDecreasing (change_starts last at ns)
starts_rise last at [] = λ i j d le lt. absurd (omega arith)
starts_rise last at (n ∷ ns) =
    elim (cases_Bool (n == last)) [
      | inl same ↦ rw same (starts_rise n (suc at) ns)
      | inr other ↦
          rw other (rising_behind at (change_starts n (suc at) ns)
          (λ i d lt. let rest = from_there n (suc at) ns i d lt in omega arith) (starts_rise n (suc at) ns))
    ]

-- the last one stands at the end
pub last_at : (last : ℕ) (ns : List ℕ) (i d : ℕ) → length ns ≡ suc i → number_behind last ns ≡ get_or ns i d
last_at last [] i d is = absurd (omega arith)
last_at last (n ∷ []) zero d is = refl
last_at last (n ∷ []) (suc i) d is = absurd (omega arith)
last_at last (n ∷ m ∷ ns) zero d is = absurd (omega arith)
last_at last (n ∷ m ∷ ns) (suc i) d is = last_at n (m ∷ ns) i d (omega arith)

-- where the last one stands up to a place, all do
pub all_below : (n : ℕ) (ss : List ℕ) (i d : ℕ) → IsNonDecreasing ss → length ss ≡ suc i → get_or ss i d < n → below n ss ≡ length ss
all_below n ss i d rise long last =
    sym (counted_below n ss (length ss) (omega arith) (λ k lt. lower k lt) (λ k le lt. absurd (omega arith)))
  where
    lower : (k : ℕ) → k < length ss → nat_lt (get_or ss k 0) n ≡ true
    lower k lt =
        let up = rise k i 0 (omega arith) (omega arith) in
        let same = get_or_default ss i 0 d (omega arith) in
        grind (arith, nat_tests)

pub none_last : (ns : List ℕ) → length ns ≡ 0 → number_behind 0 ns ≡ 0
none_last [] none = refl
none_last (n ∷ ns) none = absurd (omega arith)

-- what a test of two numbers tells

pub is_same : (a b : ℕ) → a ≡ b → (a == b) ≡ true
is_same a b is = grind (arith, nat_tests)

pub is_other : (a b : ℕ) → (a ≡ b → ⊥) → (a == b) ≡ false
is_other a b other = grind (arith, nat_tests)

-- the next change stands at a place, or all of the others behind it

pub one_more_below : (n at last d : ℕ) (ns : List ℕ) → below n (change_starts last at ns) < length (change_starts last at ns)
    → get_or (change_starts last at ns) (below n (change_starts last at ns)) d ≡ n → below (suc n) (change_starts last at ns) ≡ suc (below n (change_starts last at ns))
one_more_below n at last d [] lt is = absurd (omega arith)
one_more_below n at last d (x ∷ xs) lt is =
    elim (cases_Bool (x == last)) [
      | inl same ↦ rw same (one_more_below n (suc at) x d xs (rw same at lt) (rw same at is))
      | inr other ↦ elim (cases_Bool (nat_lt at n)) [
        | inl lower ↦
            let up : nat_lt at (suc n) ≡ true = grind (arith, nat_tests) in
            let inside : suc (below n (change_starts x (suc at) xs)) < suc (length (change_starts x (suc at) xs)) = rw (other, lower) at lt in
            rw (other, lower, up) (ap suc (one_more_below n (suc at) x d xs (omega arith) (rw (other, lower) at is)))
        | inr upper ↦
            let here : at ≡ n = rw (other, upper) at is in
            let up : nat_lt at (suc n) ≡ true = grind (arith, nat_tests) in
            rw (other, upper, up) (ap suc (none_below (suc n) (suc at) x xs (omega arith)))
      ]
    ]

pub no_more_below : (n at last d : ℕ) (ns : List ℕ)
    → (below n (change_starts last at ns) < length (change_starts last at ns) → get_or (change_starts last at ns) (below n (change_starts last at ns)) d ≡ n → ⊥)
    → below (suc n) (change_starts last at ns) ≡ below n (change_starts last at ns)
no_more_below n at last d [] never = refl
no_more_below n at last d (x ∷ xs) never =
    elim (cases_Bool (x == last)) [
      | inl same ↦ rw same (no_more_below n (suc at) x d xs (rw same at never))
      | inr other ↦ elim (cases_Bool (nat_lt at n)) [
        | inl lower ↦
            let up : nat_lt at (suc n) ≡ true = grind (arith, nat_tests) in
            let rest : suc (below n (change_starts x (suc at) xs)) < suc (length (change_starts x (suc at) xs))
            → get_or (change_starts x (suc at) xs) (below n (change_starts x (suc at) xs)) d ≡ n → ⊥ = rw (other, lower) at never in
            rw (other, lower, up) (ap suc (no_more_below n (suc at) x d xs (λ lt is. rest (omega arith) is)))
        | inr upper ↦
            let here : 0 < suc (length (change_starts x (suc at) xs)) → at ≡ n → ⊥ = rw (other, upper) at never in
            let up : nat_lt at (suc n) ≡ false = is_behind at n upper (here (omega arith)) in
            rw (other, upper, up) refl
      ]
    ]
  where
    is_behind : (a b : ℕ) → nat_lt a b ≡ false → (a ≡ b → ⊥) → nat_lt a (suc b) ≡ false
    is_behind a b upper other = grind (arith, nat_tests)
