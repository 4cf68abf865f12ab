-- Places in the text of a document. They are numbered from 0, the start of the text: just before the k-th character, counted
-- from 0 and with tombstones, is 2k + 1, just after it 2k + 2, and the end of the text is just behind all of these.
use Rattle.std.specs.Prelude.{ℕ, ◌+◌, ◌*◌, Bool, ◌&&◌, nat_lt, nat_le, if◌then◌else◌, List, [], ◌∷◌, length}
use Rattle.op_ids.specs.Id.{Id, is_same}
use Rattle.op_model.specs.declared.anchor.Anchor.{Anchor}
use Rattle.op_model.specs.declared.anchor.Anchor.TheVariants.{Before, After}
use Rattle.op_model.specs.declared.anchor.Start.{Start}
use Rattle.op_model.specs.declared.anchor.Start.TheVariants as start
use Rattle.op_model.specs.declared.anchor.End.{End}
use Rattle.op_model.specs.declared.anchor.End.TheVariants as end
use Rattle.op_model.specs.declared.character.Character.{Character}
use Rattle.op_model.specs.declared.marking.Marking.{Marking}

-- how many characters stand before the one with this id; all of them where there is none
abbrev pub index_of : Id → List Character → ℕ
index_of id [] = 0
index_of id (c ∷ cs) = if is_same c.id id then 0 else index_of id cs + 1

-- the place of an anchor
abbrev pub place : List Character → Anchor → ℕ
place cs (Before id) = 2 * index_of id cs + 1
place cs (After id) = 2 * index_of id cs + 2

-- where a mark operation begins
abbrev pub start_place : List Character → Start → ℕ
start_place cs start.OfText = 0
start_place cs (start.From anchor) = place cs anchor

-- where a mark operation ends
abbrev pub end_place : List Character → End → ℕ
end_place cs (end.To anchor) = place cs anchor
end_place cs end.OfText = 2 * length cs + 1

-- a mark operation covers the k-th character: it begins at the latest just before it, and ends behind that
abbrev pub covers : List Character → ℕ → Marking → Bool
covers cs k m = nat_le (start_place cs m.start) (2 * k + 1) && nat_lt (2 * k + 1) (end_place cs m.end)
