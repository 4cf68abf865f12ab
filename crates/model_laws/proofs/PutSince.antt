-- What changed since the beginning: each span is put.
use Rattle.std.proofs.Common.{◌≡◌, ℕ, ◌+◌, ◌≤◌, Bool, true, false, not, ◌&&◌, List, [], ◌∷◌, ◌++◌, length, map, Some, None, arith, ap, refl, ◌∙◌, sym}
use Rattle.std.proofs.Common.{append_assoc, length-append}
use Rattle.std.specs.Prelude.{if◌then◌else◌}
use Rattle.std.proofs.lemmas.Bool.{or_left, or_right}
use Rattle.std.proofs.lemmas.List.Folds.{list_any-append}
use Rattle.op_ids.specs.Id.{is_same}
use Rattle.op_model.specs.declared.op.Op.{Op}
use Rattle.op_model.specs.declared.character.Character.{Character}
use Rattle.op_model.specs.declared.change_step.ChangeStep.TheVariants.{Put}
use Rattle.op_model.specs.declared.mark.Marks.{Marks}
use Rattle.op_model.specs.declared.span.Span.{Span}
use Rattle.op_model.specs.Changes.{marks_at, became, step_of, with_step, with_any_step, steps, changes}
use Rattle.op_model.specs.Marks.{markings}
use Rattle.op_model.specs.Placing.{has_id, IsOrderly}
use Rattle.op_model.specs.Places.{index_of}
use Rattle.op_model.specs.Spans.{is_same_marks, marks_of, runs, spans, with_front}
use Rattle.op_model.specs.Text.{is_removed}
use Rattle.op_model.specs.Walk.{times, walk}
use Rattle.model_laws.proofs.Count.{times-append}
use Rattle.model_laws.proofs.Family.{orderly_once}
use Rattle.model_laws.proofs.Ids.{same_itself}
use Rattle.model_laws.proofs.Shown.{index_here}

-- a character put before spans that are put joins the first one, if that has its marks
put_front : (value : ℕ) (marks : Marks) (ss : List Span)
    → with_step (Put (record { text = value ∷ []; marks = marks })) (map Put ss) ≡ map Put (with_front value marks ss)
put_front value marks [] = refl
put_front value marks (s ∷ ss) = go (is_same_marks marks s.marks)
  where
    go : (same : Bool) → elim (if same then Some (Put (record { text = value ∷ s.text; marks = s.marks })) else None)
        [ Some u ↦ u ∷ map Put ss | None ↦ Put (record { text = value ∷ []; marks = marks }) ∷ Put s ∷ map Put ss ]
        ≡ map Put (if same then record s { text = value ∷ s.text } ∷ ss else record { text = value ∷ []; marks = marks } ∷ s ∷ ss)
    go true = refl
    go false = refl

module _ (ops : List Op) (doc : ℕ) (orderly : IsOrderly ops doc) where
  -- the marks of the character that stands at an index
  abbrev marks : ℕ → Marks
  marks k = marks_of (walk ops doc) (markings ops doc) k

  puts : (front cs : List Character) → walk ops doc ≡ front ++ cs
      → steps (step_of [] ops doc) cs ≡ map Put (runs (is_removed ops doc) marks (length front) cs)
  puts front [] e = refl
  puts front (c ∷ cs) e =
      let t : times c.id (front ++ c ∷ cs) ≤ 1 = rw (ap (λ xs. times c.id xs) e) at (orderly_once ops doc c.id orderly) in
      let own : times c.id (c ∷ cs) ≡ 1 + times c.id cs = rw (same_itself c.id) refl in
      let none : times c.id front ≡ 0 = omega (arith, t, own, times-append c.id front (c ∷ cs)) in
      let at' : index_of c.id (walk ops doc) ≡ length front = ap (λ xs. index_of c.id xs) e ∙ index_here front cs c none in
      let there : has_id (walk ops doc) c.id ≡ true =
      ap (λ xs. has_id xs c.id) e ∙ (list_any-append (λ x. is_same x.id c.id) front (c ∷ cs)
      ∙ or_right (has_id front c.id) (has_id (c ∷ cs) c.id) (or_left (is_same c.id c.id) (has_id cs c.id) (same_itself c.id))) in
      let long : length (front ++ c ∷ []) ≡ length front + 1 = length-append front (c ∷ []) in
      let rest : steps (step_of [] ops doc) cs ≡ map Put (runs (is_removed ops doc) marks (length front + 1) cs) =
      puts (front ++ c ∷ []) cs (e ∙ sym (append_assoc front (c ∷ []) cs)) ∙ ap (λ k. map Put (runs (is_removed ops doc) marks k cs)) long in
      let step : step_of [] ops doc c ≡ became false (not (is_removed ops doc c)) (marks_at [] doc c.id) (marks (length front)) c.value =
      (λ i. became false (there i && not (is_removed ops doc c)) (marks_at [] doc c.id) (marks (at' i)) c.value) in
      (λ i. with_any_step (step i) (rest i))
      ∙ go (is_removed ops doc c) (runs (is_removed ops doc) marks (length front + 1) cs)
    where
      go : (hidden : Bool) (ss : List Span)
          → with_any_step (became false (not hidden) (marks_at [] doc c.id) (marks (length front)) c.value) (map Put ss)
          ≡ map Put (if hidden then ss else with_front c.value (marks (length front)) ss)
      go true ss = refl
      go false ss = put_front c.value (marks (length front)) ss

-- since the beginning, each span of now was put
pub changes_since_none : (ops : List Op) (doc : ℕ) → IsOrderly ops doc → changes [] ops doc ≡ map Put (spans ops doc)
changes_since_none ops doc orderly = puts ops doc orderly [] (walk ops doc) refl
