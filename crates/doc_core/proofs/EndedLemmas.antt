-- Why an insert leaves the marks alone that end where it is.
use Rattle.std.proofs.Common.{subst, ◌≡◌, ℕ, true, List, length, None, refl, sym}
use Rattle.op_model.specs.declared.author.Author.{Author}
use Rattle.op_model.specs.declared.edit.Change.{Change}
use Rattle.op_model.specs.declared.edit.Change.TheVariants.{Insert}
use Rattle.op_model.specs.declared.edit.Edit.{Edit}
use Rattle.op_model.specs.declared.op.Op.{Op}
use Rattle.op_model.specs.Made.{is_inside}
use Rattle.op_model.specs.Text.{visible}
use Rattle.model_laws.specs.Changed.{EndedMarksStay}
use Rattle.model_laws.proofs.Ended.{orderly_not_covered}
use Rattle.doc_core.specs.Making.{AreMade, LeaveEndedMarks}
use Rattle.doc_core.specs.Standing.{Document, StandsFor}

-- the change lies within the text of the document, whichever operations it stands for
abbrev pub LiesInside : Document → Change → Type 0
LiesInside d change = (ops : List Op) → StandsFor d ops → is_inside (length (visible ops d.number)) change ≡ true

-- the defined operations of a change do so
pub made_leave : (d : Document) (author : Author) (change : Change) (found : List Op)
    → LiesInside d change → AreMade d author change found → LeaveEndedMarks d author change found
made_leave d author change found inside made = λ ops at added stands next insert.
    let edit : Edit = record { doc = d.number; rev = None; token = author.token; change = change } in
    subst (λ xs. EndedMarksStay ops d.number at xs) (sym (made ops edit stands next refl refl refl))
    (orderly_not_covered ops author.replica edit at added stands.characters.orderly insert (inside ops stands))

-- those of an insert do, which were made behind as many characters
pub made_leave_at : (d : Document) (author : Author) (at count : ℕ) (text : List ℕ) (found : List Op)
    → LiesInside d (Insert at text) → count ≡ at → AreMade d author (Insert count text) found
    → LeaveEndedMarks d author (Insert at text) found
made_leave_at d author at count text found inside same made =
    made_leave d author (Insert at text) found inside
    (subst (λ n. AreMade d author (Insert n text) found) same made)
