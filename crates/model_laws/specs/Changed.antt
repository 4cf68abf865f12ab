-- What an edit does to the text that a reader sees, and to the marks that end where it inserts.
use Rattle.std.specs.Prelude.{◌≡◌, ◌⊎◌, ℕ, ◌+◌, Bool, true, false, not, if◌then◌else◌, ◌&&◌, nat_le, nat_lt, List, [], ◌∷◌, ◌++◌, length, take, drop}
use Rattle.std.specs.Prelude.{filter, Some, Contains}
use Rattle.op_ids.specs.Id.{Id}
use Rattle.op_model.specs.declared.op.Op.{Op}
use Rattle.op_model.specs.declared.anchor.Anchor.TheVariants.{After}
use Rattle.op_model.specs.declared.anchor.End.TheVariants.{To}
use Rattle.op_model.specs.declared.marking.Marking.{Marking}
use Rattle.op_model.specs.declared.edit.Change.{Change}
use Rattle.op_model.specs.declared.edit.Change.TheVariants.{Insert, Delete, Mark, Unmark}
use Rattle.op_model.specs.declared.character.Character.{Character}
use Rattle.op_model.specs.Text.{is_removed, visible}
use Rattle.op_model.specs.declared.edit.Edit.{Edit}
use Rattle.op_model.specs.Made.{tombstones_at, id_before, made}
use Rattle.op_model.specs.Placing.{has_id}
use Rattle.op_model.specs.declared.mark.MarkKey.{MarkKey}
use Rattle.op_model.specs.declared.mark.MarkKey.TheVariants as key
use Rattle.op_model.specs.Marks.{markings}
use Rattle.op_model.specs.Places.{covers}
use Rattle.op_model.specs.Walk.{walk}

-- the text with the change: an insert puts its characters at an index, a delete leaves out count characters from an index on
abbrev pub changed : List ℕ → Change → List ℕ
changed text (Insert at added) = take at text ++ added ++ drop at text
changed text (Delete at count) = take at text ++ drop (at + count.value) text
changed text (Mark from to mark) = text
changed text (Unmark from to key) = text

-- is the character just before an index of the text, or one of the tombstones between that and the next character
abbrev pub IsJustBefore : List Op → ℕ → ℕ → Id → Type 0
IsJustBefore ops doc at id =
    (has_id (tombstones_at ops doc at) id ≡ true) ⊎ (id_before (visible ops doc) at ≡ Some id)

-- the marks that end just before an index of the text stay as long as they are: where one ends just after the character there, or after
-- one of the tombstones between that and the next character, it covers no character that these operations insert
abbrev pub EndedMarksStay : List Op → ℕ → ℕ → List Op → Type 0
EndedMarksStay ops doc at more = (m : Marking) (id : Id) (front rest : List Character) (c : Character)
    → Contains (markings ops doc) m → m.end ≡ To (After id) → IsJustBefore ops doc at id
    → walk (ops ++ more) doc ≡ front ++ c ∷ rest → has_id (walk ops doc) c.id ≡ false
    → covers (walk (ops ++ more) doc) (length front) m ≡ false

-- strong and em grow at their end, links and comments don't
abbrev pub grows : MarkKey → Bool
grows key.Strong = true
grows key.Em = true
grows key.Link = false
grows (key.Comment id) = false

-- a mark on the characters from one index of the text to another covers what is inserted at an index: behind its first character and
-- before its end, and right at its end where it grows
abbrev pub takes_in : MarkKey → ℕ → ℕ → ℕ → Bool
takes_in key from to at = nat_lt from at && (if grows key then nat_le at to else nat_lt at to)

-- where an edit, whose one mark operation is on the characters from one index to another, is followed by an insert at an index, that
-- operation covers each new character, or none
abbrev pub GrowsSo : List Op → ℕ → Edit → ℕ → Edit → MarkKey → ℕ → ℕ → ℕ → Type 0
GrowsSo ops replica edit other later key from to at =
    (m : Marking) (front rest : List Character) (c : Character) → markings (made ops replica edit) edit.doc ≡ m ∷ []
    → walk ((ops ++ made ops replica edit) ++ made (ops ++ made ops replica edit) other later) edit.doc ≡ front ++ c ∷ rest
    → has_id (walk (ops ++ made ops replica edit) edit.doc) c.id ≡ false
    → covers (walk ((ops ++ made ops replica edit) ++ made (ops ++ made ops replica edit) other later) edit.doc) (length front) m
    ≡ takes_in key from to at

-- how many characters the text has in front of what stands behind these
abbrev pub shown_before : List Op → ℕ → List Character → ℕ
shown_before ops doc front = length (filter (λ c. not (is_removed ops doc c)) front)

-- an index lies from one on, and before another
abbrev pub is_between : ℕ → ℕ → ℕ → Bool
is_between from to i = nat_le from i && nat_lt i to
