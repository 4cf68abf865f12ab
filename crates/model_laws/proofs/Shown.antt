-- The spans are the greatest runs of what is shown.
use Rattle.std.proofs.Common.{◌≡◌, ℕ, ◌+◌, ◌≤◌, Bool, not, inl, inr, List, [], ◌∷◌, ◌++◌, length, filter, map, arith, ap, refl, ◌∙◌, sym}
use Rattle.std.proofs.Common.{append_assoc, length-append}
use Rattle.std.proofs.lemmas.Bool.{cases_Bool}
use Rattle.op_ids.specs.Id.{Id, is_same}
use Rattle.op_model.specs.declared.op.Op.{Op}
use Rattle.op_model.specs.declared.character.Character.{Character}
use Rattle.op_model.specs.declared.mark.Marks.{Marks}
use Rattle.op_model.specs.Walk.{walk, times}
use Rattle.op_model.specs.Text.{is_removed}
use Rattle.op_model.specs.Marks.{markings}
use Rattle.op_model.specs.Places.{index_of}
use Rattle.op_model.specs.Spans.{marks_of, runs, with_front, spans}
use Rattle.op_model.specs.Placing.{IsOrderly}
use Rattle.op_model.specs.Changes.{is_shown, shown_since}
use Rattle.model_laws.specs.Since.{as_spans}
use Rattle.model_laws.proofs.Ids.{same_itself}
use Rattle.model_laws.proofs.Count.{times-append}
use Rattle.model_laws.proofs.Family.{orderly_once}
use Rattle.model_laws.proofs.Stepped.{is_seen}

-- a character that isn't among those before it stands where they end
pub index_here : (front rest : List Character) (c : Character) → times c.id front ≡ 0 → index_of c.id (front ++ c ∷ rest) ≡ length front
index_here [] rest c z = rw (same_itself c.id) refl
index_here (x ∷ front) rest c z =
    elim (cases_Bool (is_same x.id c.id)) [
      | inl e ↦ absurd (omega (arith, rw e at z))
      | inr e ↦ rw e (omega (arith, index_here front rest c (omega (arith, rw e at z))))
    ]

module _ (was hidden : Character → Bool) (marks : ℕ → Marks) (w : List Character) (once : (id : Id) → times id w ≤ 1) where
  runs_seen : (front cs : List Character) → w ≡ front ++ cs
      → as_spans (map (λ c. is_seen (was c) (marks (index_of c.id w)) c) (filter (λ c. not (hidden c)) cs)) ≡ runs hidden marks (length front) cs
  runs_seen front [] e = refl
  runs_seen front (c ∷ cs) e =
      let t : times c.id (front ++ c ∷ cs) ≤ 1 = rw (ap (λ xs. times c.id xs) e) at (once c.id) in
      let none : times c.id front ≡ 0 = omega (arith, t, times-append c.id front (c ∷ cs), same_counted) in
      let at' : index_of c.id w ≡ length front = ap (λ xs. index_of c.id xs) e ∙ index_here front cs c none in
      let more : length (front ++ c ∷ []) ≡ length front + 1 = omega (arith, length-append front (c ∷ [])) in
      let ih = runs_seen (front ++ c ∷ []) cs (e ∙ sym (append_assoc front (c ∷ []) cs)) ∙ ap (λ k. runs hidden marks k cs) more in
      elim (cases_Bool (hidden c)) [
        | inl f ↦ rw f ih
        | inr f ↦ rw f (ap (λ k. with_front c.value (marks k) (as_spans (map (λ x. is_seen (was x) (marks (index_of x.id w)) x) (filter (λ x. not (hidden x)) cs)))) at'
            ∙ ap (λ ss. with_front c.value (marks (length front)) ss) ih)
      ]
    where
      same_counted : times c.id (c ∷ cs) ≡ 1 + times c.id cs
      same_counted = rw (same_itself c.id) refl

-- the spans of now are the greatest runs of what is shown
pub shown_spans : (before now : List Op) (doc : ℕ) → IsOrderly now doc → as_spans (shown_since before now doc) ≡ spans now doc
shown_spans before now doc h =
    runs_seen (λ c. is_shown before doc c) (λ c. is_removed now doc c) (λ k. marks_of (walk now doc) (markings now doc) k) (walk now doc)
    (λ id. orderly_once now doc id h) [] (walk now doc) refl
