-- What follows a list fits its document, and other documents stay.
use Rattle.std.proofs.Common.{◌≡◌, ℕ, ◌+◌, true, false, Option, List, [], ◌∷◌, ◌++◌, refl, sym, ◌∙◌, ap, arith}
use Rattle.std.specs.Prelude.{◌==◌, ◌≢◌}
use Rattle.std.proofs.lemmas.Bool.Decides.{nat_tests}
use Rattle.list_counts.proofs.WriterLemmas.{first_writers-other}
use Rattle.op_ids.specs.Clock.{advanced}
use Rattle.op_model.specs.declared.edit.Edit.{Edit}
use Rattle.op_model.specs.declared.op.Body.{Body}
use Rattle.op_model.specs.declared.op.Op.{Op}
use Rattle.op_model.specs.Causality.{FollowInTurn, clock_of, is_within_limits}
use Rattle.op_model.specs.Made.{made, numbered, bodies_of, greatest_counter}
use Rattle.model_laws.proofs.Closed.{follows_fits}
use Rattle.model_laws.proofs.Growth.{other_rev}
use Rattle.model_laws.proofs.Makes.{made_follow}
use Rattle.char_sequence.specs.Chunks.{cells_of}
use Rattle.char_sequence.specs.Content.{FitAfter}
use Rattle.char_sequence.proofs.HoldsLemmas.{holds_other}
use Rattle.mark_anchors.proofs.KeepLemmas.{gathered_with, kept_with, other_marks_none}
use Rattle.doc_core.specs.Drafting.{Drafted, IsDraftOf}
use Rattle.doc_core.specs.Standing.{counted, Document, StandsFor}

-- what was numbered fits in turn
pub numbered_fit : (ops : List Op) (replica doc : ℕ) (token : Option ℕ) (counter : ℕ) (clock : List (ℕ × ℕ)) (bodies : List Body)
    → FollowInTurn ops (numbered replica doc token counter clock bodies) → FitAfter ops doc (numbered replica doc token counter clock bodies)
numbered_fit ops replica doc token counter clock [] follow = tt
numbered_fit ops replica doc token counter clock (b ∷ bs) follow =
    let op : Op = record { id = record { counter = counter; replica = replica }; doc = doc; token = token; deps = clock; body = b } in
    (follows_fits ops doc op follow.0 refl, numbered_fit (ops ++ op ∷ []) replica doc token (counter + 1) (advanced clock replica) bs follow.1)

pub made_fit : (ops : List Op) (replica : ℕ) (edit : Edit) → is_within_limits (ops ++ made ops replica edit) ≡ true
    → FitAfter ops edit.doc (made ops replica edit)
made_fit ops replica edit limits =
    numbered_fit ops replica edit.doc edit.token (greatest_counter ops + 1) (clock_of ops) (bodies_of ops replica edit.doc edit.change)
    (made_follow ops replica edit limits)

apart_from : (a b : ℕ) → a ≢ b → (a == b) ≡ false
apart_from a b other = grind (arith, nat_tests)

pub document_stays : (d : Document) (ops : List Op) (op : Op) → op.doc ≢ d.number → StandsFor d ops → StandsFor d (ops ++ op ∷ [])
document_stays d ops op other stands =
    let apart = apart_from op.doc d.number other in
    record {
      characters = holds_other (cells_of d.characters) ops d.number op apart stands.characters;
      marks = kept_with d.marks ops (op ∷ []) d.number (other_marks_none op d.number other) stands.marks;
      rev = stands.rev ∙ ap counted (sym (other_rev ops d.number op apart));
      writers = stands.writers ∙ sym (first_writers-other ops d.number op apart);
    }

pub draft_stays : (d : Drafted) (ops : List Op) (op : Op) → op.doc ≢ d.number → IsDraftOf d ops → IsDraftOf d (ops ++ op ∷ [])
draft_stays d ops op other draft =
    let apart = apart_from op.doc d.number other in
    record {
      characters = holds_other d.characters ops d.number op apart draft.characters;
      marks = gathered_with d.marks ops (op ∷ []) d.number (other_marks_none op d.number other) draft.marks;
      rev = draft.rev ∙ ap counted (sym (other_rev ops d.number op apart));
      writers = draft.writers ∙ sym (first_writers-other ops d.number op apart);
    }
