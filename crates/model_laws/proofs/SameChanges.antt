-- Peers with the same operations tell the same changes.
use Rattle.std.proofs.Common.{◌≡◌, ℕ, not, ◌&&◌, List, ap, ◌∙◌}
use Rattle.op_ids.specs.Id.{Id}
use Rattle.op_model.specs.declared.op.Op.{Op}
use Rattle.op_model.specs.declared.character.Character.{Character}
use Rattle.op_model.specs.Walk.{walk}
use Rattle.op_model.specs.Marks.{markings}
use Rattle.op_model.specs.Places.{index_of}
use Rattle.op_model.specs.Spans.{marks_of}
use Rattle.op_model.specs.Placing.{has_id}
use Rattle.op_model.specs.Causality.{HaveSameOps, IsCausallyClosed}
use Rattle.op_model.specs.Changes.{is_shown, marks_at, became, step_of, steps, changes}
use Rattle.model_laws.proofs.Marked.{same_walk, same_removed, same_marks}
use Rattle.model_laws.proofs.OneDocument.{steps_agree}

same_shown : (a b : List Op) → IsCausallyClosed a → IsCausallyClosed b → HaveSameOps a b → (doc : ℕ) (c : Character)
    → is_shown a doc c ≡ is_shown b doc c
same_shown a b h k s doc c = λ i. has_id (same_walk a b h k s doc i) c.id && not (same_removed a b h k s doc c i)

same_marks_at : (a b : List Op) → IsCausallyClosed a → IsCausallyClosed b → HaveSameOps a b → (doc : ℕ) (id : Id)
    → marks_at a doc id ≡ marks_at b doc id
same_marks_at a b h k s doc id =
    (λ i. marks_of (same_walk a b h k s doc i) (markings a doc) (index_of id (same_walk a b h k s doc i)))
    ∙ same_marks a b h k s doc (walk b doc) (index_of id (walk b doc))

pub same_changes : (a b c d : List Op) (doc : ℕ) → IsCausallyClosed a → IsCausallyClosed b → HaveSameOps a b
    → IsCausallyClosed c → IsCausallyClosed d → HaveSameOps c d → changes a c doc ≡ changes b d doc
same_changes a b c d doc h k s m n t =
    steps_agree (step_of a c doc) (step_of b d doc)
    (λ x i. became (same_shown a b h k s doc x i) (same_shown c d m n t doc x i) (same_marks_at a b h k s doc x.id i) (same_marks_at c d m n t doc x.id i) x.value)
    (walk c doc)
    ∙ ap (λ cs. steps (step_of b d doc) cs) (same_walk c d m n t doc)
