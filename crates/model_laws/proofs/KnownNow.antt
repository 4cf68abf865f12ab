-- Each step, by what is known now.
use Rattle.std.proofs.Common.{◌≡◌, ℕ, ◌+◌, ◌≤◌, Bool, true, false, not, ◌&&◌, List, ◌∷◌, ◌++◌, length, arith, ap, refl, ◌∙◌}
use Rattle.std.proofs.lemmas.Bool.{and_parts}
use Rattle.op_model.specs.declared.op.Op.{Op}
use Rattle.op_model.specs.declared.character.Character.{Character}
use Rattle.op_model.specs.declared.mark.Marks.{Marks}
use Rattle.op_model.specs.Walk.{walk, times}
use Rattle.op_model.specs.Text.{is_removed}
use Rattle.op_model.specs.Marks.{markings}
use Rattle.op_model.specs.Places.{index_of}
use Rattle.op_model.specs.Spans.{marks_of}
use Rattle.op_model.specs.Placing.{has_id, IsOrderly}
use Rattle.op_model.specs.Changes.{is_shown, marks_at, became, step_of}
use Rattle.model_laws.specs.Since.{was_shown}
use Rattle.model_laws.proofs.Ids.{same_itself}
use Rattle.model_laws.proofs.Count.{times-append}
use Rattle.model_laws.proofs.Family.{orderly_once}
use Rattle.model_laws.proofs.Grown.{counted_there}
use Rattle.model_laws.proofs.Shown.{index_here}
use Rattle.model_laws.proofs.MarksKept.{marks_then}
use Rattle.model_laws.proofs.WasShown.{shown_then_by}

-- the marks that a character had only matter if it was shown
became_by : (was is : Bool) (old other new : Marks) (value : ℕ) → (was ≡ true → old ≡ other) → became was is old new value ≡ became was is other new value
became_by true true old other new value e = ap (λ m. became true true m new value) (e refl)
became_by true false old other new value e = refl
became_by false true old other new value e = refl
became_by false false old other new value e = refl

-- the step of a character, by what is known at its place now
pub step_now : (before more : List Op) (doc : ℕ) (front rest : List Character) (c : Character) → IsOrderly (before ++ more) doc
    → walk (before ++ more) doc ≡ front ++ c ∷ rest
    → step_of before (before ++ more) doc c
    ≡ became (was_shown before more doc c) (not (is_removed (before ++ more) doc c))
    (marks_of (walk (before ++ more) doc) (markings before doc) (length front))
    (marks_of (walk (before ++ more) doc) (markings (before ++ more) doc) (length front))
    c.value
step_now before more doc front rest c h e =
    let now : List Op = before ++ more in
    let here : times c.id (c ∷ rest) ≡ 1 + times c.id rest = rw (same_itself c.id) refl in
    let once : times c.id (front ++ c ∷ rest) ≤ 1 = rw (ap (λ xs. times c.id xs) e) at (orderly_once now doc c.id h) in
    let none : times c.id front ≡ 0 = omega (arith, once, here, times-append c.id front (c ∷ rest)) in
    let index : index_of c.id (walk now doc) ≡ length front = ap (λ xs. index_of c.id xs) e ∙ index_here front rest c none in
    let some : 1 ≤ times c.id (front ++ c ∷ rest) = omega (arith, here, times-append c.id front (c ∷ rest)) in
    let there : has_id (walk now doc) c.id ≡ true = ap (λ xs. has_id xs c.id) e ∙ counted_there (front ++ c ∷ rest) c.id some in
    became_by (is_shown before doc c) (is_shown now doc c) (marks_at before doc c.id)
    (marks_of (walk now doc) (markings before doc) (index_of c.id (walk now doc))) (marks_at now doc c.id) c.value
    (λ s. marks_then before more doc c.id h (and_parts (has_id (walk before doc) c.id) (not (is_removed before doc c)) s).0)
    ∙ (λ i. became (shown_then_by before more doc c h there i) (there i && not (is_removed now doc c))
    (marks_of (walk now doc) (markings before doc) (index i)) (marks_of (walk now doc) (markings now doc) (index i)) c.value)
