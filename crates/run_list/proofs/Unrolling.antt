-- What marks and firsts stand for.
use Rattle.std.proofs.Common.{◌≡◌, ℕ, true, false, List, [], ◌∷◌}
use Rattle.std.proofs.Common.{Option, Some, None, refl, sym, ap, subst, ◌∙◌, inl, inr}
use Rattle.std.specs.Prelude.{◌==◌}
use Rattle.std.specs.Char.{IsScalar}
use Rattle.std.proofs.Math.Utf8.{scalar as scalar_test}
use Rattle.std.proofs.lemmas.Bool.{cases_Bool, eqb-true}
use Rattle.op_model.specs.declared.op.Op.{Op}
use Rattle.op_model.specs.declared.op.Body.{Body}
use Rattle.op_model.specs.declared.op.Body.TheVariants.{Insert, Remove, AddMark, RemoveMark}
use Rattle.change_codec.specs.Fits.{IsContent, IsOperation}
use Rattle.change_codec.specs.Stream.{AreOperations}
use Rattle.op_pieces.specs.Cutting.{is_next, value_of}
use Rattle.op_pieces.proofs.PieceLemmas.{next_is}
use Rattle.run_list.specs.Runs.{mark_of, marks_behind, firsts_behind}
use Rattle.run_list.specs.Runs.{next_of, then_behind, unrolled, HoldsRuns, AreRuns}

-- no character's number says that a run begins
scalar_is_no_beginning : (v : ℕ) → IsScalar v → (v == 1114112) ≡ false
scalar_is_no_beginning v scalar =
    elim (cases_Bool (v == 1114112)) [
      | inl is ↦ let never : false ≡ true = ap scalar_test (sym (eqb-true v 1114112 is)) ∙ scalar in absurd cc
      | inr other ↦ other
    ]

pub value_is_scalar : (body : Body) → IsContent body → (value_of body == 1114112) ≡ false
value_is_scalar (Insert origin value) fits = scalar_is_no_beginning value fits.1
value_is_scalar (Remove target) fits = refl
value_is_scalar (AddMark mark start end) fits = refl
value_is_scalar (RemoveMark key start end) fits = refl

-- the next mark stands for the next operation
next_is_it : (last : Option Op) (op : Op) (ops : List Op) → IsOperation op
    → next_of last (mark_of last op) (firsts_behind last (op ∷ ops)) ≡ Some (op, firsts_behind (Some op) ops)
next_is_it None op ops fits = refl
next_is_it (Some last) op ops fits =
    elim (cases_Bool (is_next last op)) [
      | inl on ↦
          let value = value_is_scalar op.body fits.body in
          rw on (rw value (ap (λ (o : Op). Some (o, firsts_behind (Some op) ops)) (sym (next_is last op on))))
      | inr off ↦ rw off refl
    ]

-- so they stand for the list that they were made of
pub unrolled_behind : (ops : List Op) (last : Option Op) → AreOperations ops → unrolled (marks_behind last ops) last (firsts_behind last ops) ≡ ops
unfolding unrolled
unrolled_behind [] last fits = refl
unrolled_behind (op ∷ ops) last fits =
    ap (then_behind (unrolled (marks_behind (Some op) ops))) (next_is_it last op ops fits.0)
    ∙ ap (λ (rest : List Op). op ∷ rest) (unrolled_behind ops (Some op) fits.1)

-- what is held is the list
pub held_is : (marks : List ℕ) (firsts : List Op) (starts : List ℕ) (ops : List Op) → HoldsRuns marks firsts starts ops
    → unrolled marks None firsts ≡ ops
held_is marks firsts starts ops holds =
    ap (λ (ms : List ℕ). unrolled ms None firsts) holds.marks_so
    ∙ ap (unrolled (marks_behind None ops) None) holds.firsts_so ∙ unrolled_behind ops None holds.fits

pub are_runs : (marks : List ℕ) (firsts : List Op) (starts : List ℕ) (ops : List Op) → HoldsRuns marks firsts starts ops
    → AreRuns marks firsts starts
are_runs marks firsts starts ops holds =
    subst (λ (read : List Op). HoldsRuns marks firsts starts read) (sym (held_is marks firsts starts ops holds)) holds

-- the list that a value shows is held
pub shown : (marks : List ℕ) (firsts : List Op) (starts : List ℕ) (ops : List Op) → AreRuns marks firsts starts
    → unrolled marks None firsts ≡ ops → HoldsRuns marks firsts starts ops
shown marks firsts starts ops are is = subst (λ (read : List Op). HoldsRuns marks firsts starts read) is are
