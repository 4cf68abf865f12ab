-- What came for a document since a beginning of its operations.
use Rattle.std.specs.Prelude.{◌≡◌, ℕ, ◌-◌, ◌==◌, Bool, false, not, ◌&&◌, ◌||◌, List, length, take}
use Rattle.std.specs.BTreeSet.{contains}
use Rattle.std.specs.List.{list_any}
use Rattle.op_ids.specs.Id.{Id}
use Rattle.op_model.specs.declared.marking.Marking.{Marking}
use Rattle.op_model.specs.declared.op.Op.{Op}
use Rattle.op_model.specs.declared.op.Body.{Body}
use Rattle.op_model.specs.declared.op.Body.TheVariants.{Insert, Remove, AddMark, RemoveMark}
use Rattle.op_model.specs.Characters.{characters}
use Rattle.op_model.specs.Marks.{markings}
use Rattle.op_model.specs.Placing.{has_id}
use Rattle.op_model.specs.Text.{is_removal_of}
use Rattle.char_sequence.specs.declared.cell.Cell.{Cell}
use Rattle.span_flatten.specs.declared.since.Since.{Since}
use Rattle.span_flatten.specs.Ranking.{id_order}

-- some operation of the document removes the character of this id
abbrev pub is_gone : List Op → ℕ → Id → Bool
is_gone ops doc id = list_any (λ op. op.doc == doc && is_removal_of id op.body) ops

-- a body removes a character that these operations removed before
abbrev pub removes_again : List Op → ℕ → Body → Bool
removes_again before doc (Remove target) = is_gone before doc target
removes_again before doc (Insert origin value) = false
removes_again before doc (AddMark mark start end) = false
removes_again before doc (RemoveMark key start end) = false

-- the character of this id is noted as inserted, or as removed
abbrev pub has_inserted : Since → Id → Bool
has_inserted s id = contains id_order s.inserted id

abbrev pub has_removed : Since → Id → Bool
has_removed s id = contains id_order s.removed id

-- Noted is what the operations that come after those before did to the document: which characters they inserted, which ones they
-- removed that weren't removed before, and how many mark operations they are.
pub record IsSince (s : Since) (before more : List Op) (doc : ℕ) : Type 0 where
  pub number : s.doc ≡ doc
  pub inserted : (id : Id) → has_inserted s id ≡ has_id (characters more doc) id
  pub removed : (id : Id) → has_removed s id ≡ (not (is_gone before doc id) && is_gone more doc id)
  pub marked : s.marked ≡ length (markings more doc)

-- a reader saw the character of this cell before: it wasn't inserted since, and isn't removed, or was removed since
abbrev pub was_seen : Since → Cell → Bool
was_seen s c = not (has_inserted s c.id) && (not c.is_removed || has_removed s c.id)

-- the mark operations of before, among all of a document
abbrev pub older : Since → List Marking → List Marking
older s ms = take (length ms - s.marked) ms
