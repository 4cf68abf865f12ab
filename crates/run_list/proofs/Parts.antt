-- The marks, firsts and starts of the beginning of a list, and of a list with one more.
use Rattle.std.proofs.Common.{◌≡◌, ℕ, zero, suc, ◌+◌, ◌<◌, ◌≤◌, true, false, nat_lt, List, [], ◌∷◌}
use Rattle.std.proofs.Common.{◌++◌, length, get_or, take, Option, Some, refl, ap, inl, inr, arith}
use Rattle.std.specs.List.Sorted.{IsNonDecreasing}
use Rattle.std.proofs.lemmas.Bool.{cases_Bool}
use Rattle.std.proofs.lemmas.Bool.Decides.{nat_tests}
use Rattle.op_model.specs.declared.op.Op.{Op}
use Rattle.run_list.specs.Runs.{goes_on, mark_of, marks_behind, firsts_behind, starts_behind, last_behind}
use Rattle.run_list.specs.Reading.{below}

pub length-marks : (last : Option Op) (ops : List Op) → length (marks_behind last ops) ≡ length ops
length-marks last [] = refl
length-marks last (op ∷ ops) = ap suc (length-marks (Some op) ops)

pub length-firsts : (last : Option Op) (at : ℕ) (ops : List Op) → length (firsts_behind last ops) ≡ length (starts_behind last at ops)
length-firsts last at [] = refl
length-firsts last at (op ∷ ops) =
    elim (cases_Bool (goes_on last op)) [
      | inl on ↦ rw on (length-firsts (Some op) (suc at) ops)
      | inr off ↦ rw off (ap suc (length-firsts (Some op) (suc at) ops))
    ]

pub length-starts-le : (last : Option Op) (at : ℕ) (ops : List Op) → length (starts_behind last at ops) ≤ length ops
length-starts-le last at [] = omega arith
length-starts-le last at (op ∷ ops) =
    let rest = length-starts-le (Some op) (suc at) ops in
    elim (cases_Bool (goes_on last op)) [ inl on ↦ rw on (omega arith) | inr off ↦ rw off (omega arith) ]

-- the first ones

pub marks-take : (n : ℕ) (last : Option Op) (ops : List Op) → take n (marks_behind last ops) ≡ marks_behind last (take n ops)
marks-take zero last ops = refl
marks-take (suc n) last [] = refl
marks-take (suc n) last (op ∷ ops) = ap (λ (ms : List ℕ). mark_of last op ∷ ms) (marks-take n (Some op) ops)

-- all of these stand from there on
none_below : (n at : ℕ) (last : Option Op) (ops : List Op) → n ≤ at → below n (starts_behind last at ops) ≡ 0
none_below n at last [] le = refl
none_below n at last (op ∷ ops) le =
    elim (cases_Bool (goes_on last op)) [
      | inl on ↦ rw on (none_below n (suc at) (Some op) ops (omega arith))
      | inr off ↦ let upper : nat_lt at n ≡ false = grind (arith, nat_tests) in rw (off, upper) refl
    ]

pub below-starts : (n at end : ℕ) (last : Option Op) (ops : List Op) → end ≡ at + n
    → below end (starts_behind last at ops) ≡ length (starts_behind last at (take n ops))
below-starts zero at end last ops is = none_below end at last ops (omega arith)
below-starts (suc n) at end last [] is = refl
below-starts (suc n) at end last (op ∷ ops) is =
    let rest = below-starts n (suc at) end (Some op) ops (omega arith) in
    elim (cases_Bool (goes_on last op)) [
      | inl on ↦ rw on rest
      | inr off ↦ let lower : nat_lt at end ≡ true = grind (arith, nat_tests) in rw (off, lower) (ap suc rest)
    ]

pub starts-take : (n at : ℕ) (last : Option Op) (ops : List Op)
    → take (length (starts_behind last at (take n ops))) (starts_behind last at ops) ≡ starts_behind last at (take n ops)
starts-take zero at last ops = refl
starts-take (suc n) at last [] = refl
starts-take (suc n) at last (op ∷ ops) =
    elim (cases_Bool (goes_on last op)) [
      | inl on ↦ rw on (starts-take n (suc at) (Some op) ops)
      | inr off ↦ rw off (ap (λ (ss : List ℕ). at ∷ ss) (starts-take n (suc at) (Some op) ops))
    ]

pub firsts-take : (n at : ℕ) (last : Option Op) (ops : List Op)
    → take (length (starts_behind last at (take n ops))) (firsts_behind last ops) ≡ firsts_behind last (take n ops)
firsts-take zero at last ops = refl
firsts-take (suc n) at last [] = refl
firsts-take (suc n) at last (op ∷ ops) =
    elim (cases_Bool (goes_on last op)) [
      | inl on ↦ rw on (firsts-take n (suc at) (Some op) ops)
      | inr off ↦ rw off (ap (λ (fs : List Op). op ∷ fs) (firsts-take n (suc at) (Some op) ops))
    ]

-- one more

pub marks-more : (last : Option Op) (ops : List Op) (op : Op)
    → marks_behind last (ops ++ op ∷ []) ≡ marks_behind last ops ++ mark_of (last_behind last ops) op ∷ []
marks-more last [] op = refl
marks-more last (o ∷ ops) op = ap (λ (ms : List ℕ). mark_of last o ∷ ms) (marks-more (Some o) ops op)

pub firsts-same : (last : Option Op) (ops : List Op) (op : Op) → goes_on (last_behind last ops) op ≡ true
    → firsts_behind last (ops ++ op ∷ []) ≡ firsts_behind last ops
firsts-same last [] op on = rw on refl
firsts-same last (o ∷ ops) op on =
    let rest = firsts-same (Some o) ops op on in
    elim (cases_Bool (goes_on last o)) [ inl lower ↦ rw lower rest | inr upper ↦ rw upper (ap (λ (fs : List Op). o ∷ fs) rest) ]

pub firsts-more : (last : Option Op) (ops : List Op) (op : Op) → goes_on (last_behind last ops) op ≡ false
    → firsts_behind last (ops ++ op ∷ []) ≡ firsts_behind last ops ++ op ∷ []
firsts-more last [] op off = rw off refl
firsts-more last (o ∷ ops) op off =
    let rest = firsts-more (Some o) ops op off in
    elim (cases_Bool (goes_on last o)) [ inl lower ↦ rw lower rest | inr upper ↦ rw upper (ap (λ (fs : List Op). o ∷ fs) rest) ]

pub starts-same : (last : Option Op) (at : ℕ) (ops : List Op) (op : Op) → goes_on (last_behind last ops) op ≡ true
    → starts_behind last at (ops ++ op ∷ []) ≡ starts_behind last at ops
starts-same last at [] op on = rw on refl
starts-same last at (o ∷ ops) op on =
    let rest = starts-same (Some o) (suc at) ops op on in
    elim (cases_Bool (goes_on last o)) [ inl lower ↦ rw lower rest | inr upper ↦ rw upper (ap (λ (ss : List ℕ). at ∷ ss) rest) ]

pub starts-more : (last : Option Op) (at end : ℕ) (ops : List Op) (op : Op) → end ≡ at + length ops → goes_on (last_behind last ops) op ≡ false
    → starts_behind last at (ops ++ op ∷ []) ≡ starts_behind last at ops ++ end ∷ []
starts-more last at end [] op is off = let same : end ≡ at = omega arith in rw (off, same) refl
starts-more last at end (o ∷ ops) op is off =
    let rest = starts-more (Some o) (suc at) end ops op (omega arith) off in
    elim (cases_Bool (goes_on last o)) [ inl lower ↦ rw lower rest | inr upper ↦ rw upper (ap (λ (ss : List ℕ). at ∷ ss) rest) ]

pub last-more : (last : Option Op) (ops : List Op) (op : Op) → last_behind last (ops ++ op ∷ []) ≡ Some op
last-more last [] op = refl
last-more last (o ∷ ops) op = last-more (Some o) ops op

-- the last one is at the end
pub last_at : (last : Option Op) (ops : List Op) (i : ℕ) (d : Op) → length ops ≡ suc i → last_behind last ops ≡ Some (get_or ops i d)
last_at last [] i d is = absurd (omega arith)
last_at last (o ∷ []) zero d is = refl
last_at last (o ∷ []) (suc i) d is = absurd (omega arith)
last_at last (o ∷ p ∷ ops) zero d is = absurd (omega arith)
last_at last (o ∷ p ∷ ops) (suc i) d is = last_at (Some o) (p ∷ ops) i d (omega arith)

-- the places of those that begin a run rise

first_or_behind : (at : ℕ) (ss : List ℕ) → ((i d : ℕ) → i < length ss → suc at ≤ get_or ss i d) → (i d : ℕ) → i < length (at ∷ ss)
    → at ≤ get_or (at ∷ ss) i d
first_or_behind at ss behind zero d lt = omega arith
first_or_behind at ss behind (suc i) d lt = let rest = behind i d (omega arith) in omega arith

from_there : (last : Option Op) (at : ℕ) (ops : List Op) (i d : ℕ) → i < length (starts_behind last at ops) → at ≤ get_or (starts_behind last at ops) i d
from_there last at [] i d lt = absurd (omega arith)
from_there last at (op ∷ ops) i d lt =
    elim (cases_Bool (goes_on last op)) [
      | inl on ↦
          let inside : i < length (starts_behind (Some op) (suc at) ops) = rw on at lt in
          let rest = from_there (Some op) (suc at) ops i d inside in
          rw on (omega arith)
      | inr off ↦
          let inside : i < length (at ∷ starts_behind (Some op) (suc at) ops) = rw off at lt in
          rw off (first_or_behind at (starts_behind (Some op) (suc at) ops) (from_there (Some op) (suc at) ops) i d inside)
    ]

rising_behind : (at : ℕ) (ss : List ℕ) → ((i d : ℕ) → i < length ss → at ≤ get_or ss i d) → IsNonDecreasing ss → IsNonDecreasing (at ∷ ss)
rising_behind at ss above rise zero zero d le lt = omega arith
rising_behind at ss above rise zero (suc j) d le lt = above j d (omega arith)
rising_behind at ss above rise (suc i) zero d le lt = absurd (omega arith)
rising_behind at ss above rise (suc i) (suc j) d le lt = rise i j d (omega arith) (omega arith)

pub starts_rise : (last : Option Op) (at : ℕ) (ops : List Op) → IsNonDecreasing (starts_behind last at ops)
starts_rise last at [] = λ i j d le lt. absurd (omega arith)
starts_rise last at (op ∷ ops) =
    elim (cases_Bool (goes_on last op)) [
      | inl on ↦ rw on (starts_rise (Some op) (suc at) ops)
      | inr off ↦
          rw off (rising_behind at (starts_behind (Some op) (suc at) ops)
          (λ i d lt. let rest = from_there (Some op) (suc at) ops i d lt in omega arith) (starts_rise (Some op) (suc at) ops))
    ]
