-- Where kept mark operations end.
use Rattle.std.proofs.Common.{◌≡◌, ℕ, inl, inr, ◌||◌, List, [], ◌∷◌, refl, ap, ◌∙◌}
use Rattle.std.specs.Prelude.{◌==◌}
use Rattle.std.specs.List.{list_any, cons_option}
use Rattle.std.proofs.lemmas.Bool.{cases_Bool}
use Rattle.op_ids.specs.Id.{Id}
use Rattle.op_model.specs.declared.op.Op.{Op}
use Rattle.op_model.specs.declared.op.Body.{Body}
use Rattle.op_model.specs.declared.op.Body.TheVariants.{Insert, Remove, AddMark, RemoveMark}
use Rattle.op_model.specs.Made.{ends_after, is_end_after, is_marking_up_to}
use Rattle.op_model.specs.declared.marking.Marking.{Marking}
use Rattle.op_model.specs.Marks.{markings, marking_of}
use Rattle.mark_anchors.specs.Keeping.{kept_end_after, AreMarksOf, Kept}

-- the mark operation that a body makes, in front of others
one_more : (by id : Id) (b : Body) (ms : List Marking)
    → list_any (λ m. is_end_after id m.end) (cons_option (marking_of by b) ms)
    ≡ (is_marking_up_to id b || list_any (λ m. is_end_after id m.end) ms)
one_more by id (Insert origin value) ms = refl
one_more by id (Remove target) ms = refl
one_more by id (AddMark mark start end) ms = refl
one_more by id (RemoveMark key start end) ms = refl

-- the mark operations of a document end where its operations do
kept_ends : (ops : List Op) (doc : ℕ) (id : Id) → list_any (λ m. is_end_after id m.end) (markings ops doc) ≡ ends_after ops doc id
kept_ends [] doc id = refl
kept_ends (op ∷ ops) doc id =
    elim (cases_Bool (op.doc == doc)) [
      | inl own ↦ rw own (one_more op.id id op.body (markings ops doc) ∙ ap (λ rest. is_marking_up_to id op.body || rest) (kept_ends ops doc id))
      | inr other ↦ rw other (kept_ends ops doc id)
    ]

-- and so do those that are kept of it
pub kept_say_ends : (kept : Kept) (ops : List Op) (doc : ℕ) (id : Id) → AreMarksOf kept ops doc → kept_end_after kept id ≡ ends_after ops doc id
kept_say_ends kept ops doc id are = ap (list_any (λ m. is_end_after id m.end)) are.all ∙ kept_ends ops doc id
