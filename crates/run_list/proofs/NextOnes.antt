-- The operation behind the first ones of a list.
use Rattle.std.proofs.Common.{◌≡◌, ℕ, zero, suc, ◌+◌, ◌<◌, ◌^◌, true, false, List, [], ◌∷◌, ◌++◌}
use Rattle.std.proofs.Common.{length, get_or, take, drop, Option, Some, None, refl, sym, ap, subst, ◌∙◌, inl, inr, arith, SomeIff, MatchOption}
use Rattle.std.specs.Char.{IsScalar}
use Rattle.std.proofs.lemmas.Bool.{cases_Bool}
use Rattle.std.proofs.lemmas.List.{get_or_default, get_or-take, length-take}
use Rattle.op_model.specs.declared.op.Op.{Op}
use Rattle.op_pieces.specs.Cutting.{is_next, value_of}
use Rattle.op_pieces.specs.Pieces.{next_typed}
use Rattle.op_pieces.proofs.PieceLemmas.{next_is}
use Rattle.change_codec.specs.Fits.{IsOperation}
use Rattle.change_codec.specs.Stream.{AreOperations}
use Rattle.run_list.specs.NextOnes.{BeginsRun, GoesOnWith}
use Rattle.run_list.specs.Reading.{typed_at, runs_of}
use Rattle.run_list.specs.Runs.{goes_on, mark_of, marks_behind, firsts_behind, last_behind, HoldsRuns, IsTypedBehind}
use Rattle.run_list.proofs.Appending.{Going, going_on, next_of_list}
use Rattle.run_list.proofs.Found.{operation_at, some_op}
use Rattle.run_list.proofs.Parts.{last_at, last-more, length-firsts, length-starts-le}
use Rattle.run_list.proofs.Reading.{typed_more}

-- its mark
pub mark_at : (last : Option Op) (ops : List Op) (i d : ℕ) (e : Op) → i < length ops
    → get_or (marks_behind last ops) i d ≡ mark_of (last_behind last (take i ops)) (get_or ops i e)
mark_at last [] i d e lt = absurd (omega arith)
mark_at last (op ∷ ops) zero d e lt = refl
mark_at last (op ∷ ops) (suc i) d e lt = mark_at (Some op) ops i d e (omega arith)

-- where it begins a run, it is the first one behind the firsts of those before
pub first_at : (last : Option Op) (ops : List Op) (i : ℕ) (d e : Op) → i < length ops → goes_on (last_behind last (take i ops)) (get_or ops i e) ≡ false
    → (length (firsts_behind last (take i ops)) < length (firsts_behind last ops))
    × (get_or (firsts_behind last ops) (length (firsts_behind last (take i ops))) d ≡ get_or ops i e)
first_at last [] i d e lt off = absurd (omega arith)
first_at last (op ∷ ops) zero d e lt off = rw off (omega arith, refl)
first_at last (op ∷ ops) (suc i) d e lt off =
    let rest = first_at (Some op) ops i d e (omega arith) off in
    elim (cases_Bool (goes_on last op)) [ inl on ↦ rw on rest | inr first ↦ rw first (omega (arith, rest.0), rest.1) ]

-- with it as many runs are begun as before
pub runs_same : (last : Option Op) (ops : List Op) (i : ℕ) (e : Op) → i < length ops → goes_on (last_behind last (take i ops)) (get_or ops i e) ≡ true
    → length (firsts_behind last (take (suc i) ops)) ≡ length (firsts_behind last (take i ops))
runs_same last [] i e lt on = absurd (omega arith)
runs_same last (op ∷ ops) zero e lt on = rw on refl
runs_same last (op ∷ ops) (suc i) e lt on =
    let rest = runs_same (Some op) ops i e (omega arith) on in
    elim (cases_Bool (goes_on last op)) [ inl lower ↦ rw lower rest | inr upper ↦ rw upper (ap suc rest) ]

-- or one more
pub runs_more : (last : Option Op) (ops : List Op) (i : ℕ) (e : Op) → i < length ops → goes_on (last_behind last (take i ops)) (get_or ops i e) ≡ false
    → length (firsts_behind last (take (suc i) ops)) ≡ suc (length (firsts_behind last (take i ops)))
runs_more last [] i e lt off = absurd (omega arith)
runs_more last (op ∷ ops) zero e lt off = rw off refl
runs_more last (op ∷ ops) (suc i) e lt off =
    let rest = runs_more (Some op) ops i e (omega arith) off in
    elim (cases_Bool (goes_on last op)) [ inl lower ↦ rw lower rest | inr upper ↦ rw upper (ap suc rest) ]

-- a character's number doesn't say that a run begins
never_begins : (v : ℕ) → IsScalar v → v ≡ 1114112 → ⊥
never_begins v scalar is = let same : IsScalar 1114112 = rw is at scalar in absurd cc

-- a mark that is a character goes on with the run
goes_on_so : (last : Option Op) (op : Op) (value : ℕ) → IsScalar value → value ≡ mark_of last op → (goes_on last op ≡ true) × (value ≡ value_of op.body)
goes_on_so last op value scalar is =
    elim (cases_Bool (goes_on last op)) [
      | inl on ↦ (on, rw on at is)
      | inr off ↦ absurd (never_begins value scalar (rw off at is))
    ]

pub goes_on_with : (marks : List ℕ) (ops : List Op) (i value : ℕ) → marks ≡ marks_behind None ops → i < length ops → IsScalar value
    → value ≡ get_or marks i 0 → GoesOnWith ops i value
goes_on_with marks ops i value are lt scalar is = record {
  on = λ d. (there d).0;
  types = λ d. (there d).1;
}
  where
    there : (d : Op) → (goes_on (last_behind None (take i ops)) (get_or ops i d) ≡ true) × (value ≡ value_of (get_or ops i d).body)
    there d =
        goes_on_so (last_behind None (take i ops)) (get_or ops i d) value scalar
        (is ∙ ap (λ ms. get_or ms i 0) are ∙ mark_at None ops i 0 d lt)

-- made of the one before, it is the next one typed
pub next_there : (ops : List Op) (i value : ℕ) (op d : Op) → GoesOnWith ops i value → last_behind None (take i ops) ≡ Some op
    → get_or ops i d ≡ typed_at op 1 value
next_there ops i value op d there last =
    let next : is_next op (get_or ops i d) ≡ true = ap (λ (l : Option Op). goes_on l (get_or ops i d)) (sym last) ∙ there.on d in
    next_is op (get_or ops i d) next ∙ ap (next_typed op) (sym (there.types d)) ∙ typed_more op 0 0 value

-- what goes on with a run types a character
value_scalar : (last : Option Op) (op : Op) → IsOperation op → goes_on last op ≡ true → IsScalar (value_of op.body)
value_scalar None op fits on = let never : ⊥ = cc in absurd never
value_scalar (Some l) op fits on = (subst (λ (o : Op). IsOperation o) (next_is l op on) fits).body.1

-- where the mark is no character, a run begins
pub begins_there : (marks : List ℕ) (ops : List Op) (i : ℕ) → marks ≡ marks_behind None ops → i < length ops → AreOperations ops
    → (IsScalar (get_or marks i 0) → ⊥) → BeginsRun ops i
begins_there marks ops i are lt fits no_scalar d =
    let last = last_behind None (take i ops) in
    let op = get_or ops i d in
    elim (cases_Bool (goes_on last op)) [
      | inl on ↦
          let mark : get_or marks i 0 ≡ value_of op.body = ap (λ (ms : List ℕ). get_or ms i 0) are ∙ mark_at None ops i 0 d lt ∙ rw on refl in
          absurd (no_scalar (rw mark (value_scalar last op (operation_at ops i d lt fits) on)))
      | inr off ↦ off
    ]

-- the operation at a place begins a run, before which there are so many
pub record BeginsIts (firsts ops : List Op) (i runs : ℕ) : Type 0 where
  pub within : runs < length firsts
  pub few : length firsts < 2 ^ 32
  pub first : (d : Op) → get_or firsts runs d ≡ get_or ops i d

pub begins_run : (marks : List ℕ) (firsts : List Op) (starts : List ℕ) (ops : List Op) (i runs : ℕ) → HoldsRuns marks firsts starts ops → i < length ops
    → BeginsRun ops i → runs ≡ runs_of (take i ops) → BeginsIts firsts ops i runs
begins_run marks firsts starts ops i runs holds lt off runs_are =
    let e = some_op ops i lt in
    let all : length firsts ≡ length (firsts_behind None ops) = ap length holds.firsts_so in
    record {
      within = omega (arith, (first_at None ops i e e lt (off e)).0, all, runs_are);
      few = omega (arith, all, length-firsts None 0 ops, length-starts-le None 0 ops, holds.few);
      first = λ d. ap (λ fs. get_or fs runs d) holds.firsts_so ∙ ap (λ n. get_or (firsts_behind None ops) n d) runs_are ∙ (first_at None ops i d d lt (off d)).1;
    }

pub one_more_run : (ops : List Op) (i runs more : ℕ) → i < length ops → BeginsRun ops i → runs ≡ runs_of (take i ops) → more ≡ suc runs
    → more ≡ runs_of (take (suc i) ops)
one_more_run ops i runs more lt off runs_are is =
    let e = some_op ops i lt in is ∙ ap suc runs_are ∙ sym (runs_more None ops i e lt (off e))

-- with one that goes on, as many runs are begun
pub goes_on_same : (ops : List Op) (i value runs : ℕ) → GoesOnWith ops i value → i < length ops → runs ≡ runs_of (take i ops)
    → runs ≡ runs_of (take (suc i) ops)
goes_on_same ops i value runs on lt is = let e = some_op ops i lt in is ∙ sym (runs_same None ops i e lt (on.on e))

-- a mark tells which of both it is
pub mark_told : (marks : List ℕ) (firsts : List Op) (starts : List ℕ) (ops : List Op) (i code : ℕ) (result : Option ℕ) → HoldsRuns marks firsts starts ops
    → i < length ops → code ≡ get_or marks i 0 → SomeIff result (IsScalar code) code → MatchOption result (BeginsRun ops i) (GoesOnWith ops i)
mark_told marks firsts starts ops i code None holds lt is told =
    begins_there marks ops i holds.marks_so lt holds.fits (λ scalar. told (rw (sym is) at scalar))
mark_told marks firsts starts ops i code (Some value) holds lt is told =
    goes_on_with marks ops i value holds.marks_so lt (subst (λ (v : ℕ). IsScalar v) (sym told.1) told.0) (told.1 ∙ is)

-- the next one of a list, put behind another one with the same last operation

-- it goes on there as here
pub typed_behind_too : (ops self : List Op) (i value : ℕ) (d : Op) → last_behind None self ≡ last_behind None (take i ops) → GoesOnWith ops i value
    → IsOperation (get_or ops i d) → IsTypedBehind self value (get_or ops i d)
typed_behind_too ops self i value d same on fits = record {
  on = ap (λ (l : Option Op). goes_on l (get_or ops i d)) same ∙ on.on d;
  types = on.types d;
  fits = fits;
}

pub begins_too : (ops self : List Op) (i : ℕ) (op : Op) → last_behind None self ≡ last_behind None (take i ops) → BeginsRun ops i → op ≡ get_or ops i op
    → goes_on (last_behind None self) op ≡ false
begins_too ops self i op same off is =
    ap (λ (l : Option Op). goes_on l op) same ∙ ap (goes_on (last_behind None (take i ops))) is ∙ off op

-- and then both have the same last one again
pub last_too : (ops self more : List Op) (i : ℕ) (op : Op) → i < length ops → op ≡ get_or ops i op → more ≡ self ++ op ∷ []
    → last_behind None more ≡ last_behind None (take (i + 1) ops)
last_too ops self more i op lt is grown =
    let long : length (take (i + 1) ops) ≡ suc i = (let l = length-take (i + 1) ops in omega arith) in
    ap (last_behind None) grown ∙ last-more None self op ∙ ap Some is
    ∙ sym (last_at None (take (i + 1) ops) i op long ∙ ap Some (get_or-take (i + 1) ops i op (omega arith)))

-- one more is copied
pub copied : (start ops self more : List Op) (n i : ℕ) → Going start (drop n ops) (drop i ops) self → i < length ops
    → ((d : Op) → more ≡ self ++ get_or ops i d ∷ [])
    → Going start (drop n ops) (drop (i + 1) ops) more × (last_behind None more ≡ last_behind None (take (i + 1) ops))
copied start ops self more n i going lt grown =
    let e = some_op ops i lt in
    let op = get_or ops i e in
    let is : op ≡ get_or ops i op = get_or_default ops i e op lt in
    (going_on _ _ _ _ _ _ _ going (next_of_list ops i op is lt) (grown e), last_too ops self more i op lt is (grown e))
