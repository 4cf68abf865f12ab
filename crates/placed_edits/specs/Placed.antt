-- Edits at places that last: the numbers of characters that such places are in an action.
use Rattle.std.specs.Prelude.{◌≡◌, ◌⊎◌, ℕ, ◌+◌, ◌-◌, min, Bool, true, false, ◌==◌, ◌||◌, ◌&&◌, nat_lt, nat_le, if◌then◌else◌}
use Rattle.std.specs.Prelude.{List, [], ◌∷◌, ◌++◌, length, drop, Option, Some, None, is_some, option_map, unwrap_or}
use Rattle.std.specs.List.{list_any}
use Rattle.op_model.specs.Actions.{Asked}
use Rattle.op_model.specs.Lasting.{at_of}
use Rattle.op_model.specs.declared.anchor.Anchor.TheVariants.{Before, After}
use Rattle.op_model.specs.declared.edit.Change.{Change}
use Rattle.op_model.specs.declared.edit.Change.TheVariants.{Insert, Delete, Mark, Unmark}
use Rattle.op_model.specs.declared.lasting.Lasting.{Lasting}
use Rattle.op_model.specs.declared.lasting.Lasting.TheVariants.{StartOfText, Beside, EndOfText}
use Rattle.op_model.specs.declared.lasting.Neighbour.{Neighbour}
use Rattle.op_model.specs.declared.lasting.Neighbour.TheVariants.{Previous, Next}
use Rattle.op_model.specs.declared.op.Op.{Op}
use Rattle.placed_edits.specs.declared.moving.TheConstants.{NOWHERE}
use Rattle.placed_edits.specs.declared.spots.Spots.{Spots}

-- an action, and the places that stand for numbers of its changes, in turn
pub record Placed : Type 0 where
  pub asked : Asked
  pub spots : List Spots

-- no place stands for a number
abbrev pub no_spots : Spots
no_spots = record { from = None; to = None }

-- a place stands for a number
abbrev pub is_placed : Spots → Bool
is_placed s = is_some s.from || is_some s.to

abbrev pub are_placed : List Spots → Bool
are_placed spots = list_any is_placed spots

-- the places of the first change that is left
abbrev pub spots_of : List Spots → Spots
spots_of [] = no_spots
spots_of (s ∷ ss) = s

-- the places of the change of this number
abbrev pub spots_at : ℕ → List Spots → Spots
spots_at n spots = spots_of (drop n spots)

-- a change with these numbers in place of its own, where there are some
abbrev pub by_numbers : Change → Option ℕ → Option ℕ → Change
by_numbers (Insert at text) from to = Insert (unwrap_or from at) text
by_numbers (Delete at count) from to = Delete (unwrap_or from at) count
by_numbers (Mark first last mark) from to = Mark (unwrap_or from first) (unwrap_or to last) mark
by_numbers (Unmark first last key) from to = Unmark (unwrap_or from first) (unwrap_or to last) key

-- this place stands for a number that the change has
abbrev pub IsFor : Change → Spots → Lasting → Type 0
IsFor (Insert at text) s place = s.from ≡ Some place
IsFor (Delete at count) s place = s.from ≡ Some place
IsFor (Mark first last mark) s place = (s.from ≡ Some place) ⊎ (s.to ≡ Some place)
IsFor (Unmark first last key) s place = (s.from ≡ Some place) ⊎ (s.to ≡ Some place)

-- the neighbour that a place stays with
abbrev pub neighbour_of : Lasting → Neighbour
neighbour_of StartOfText = Previous
neighbour_of (Beside (After id)) = Previous
neighbour_of (Beside (Before id)) = Next
neighbour_of EndOfText = Next

-- the number of a place, which is beyond each text where the place isn't there
abbrev pub begin : Option ℕ → ℕ
begin None = NOWHERE
begin (Some n) = min n NOWHERE

-- text that is put in at its very place goes before it if it stays with what comes next
abbrev pub is_next : Neighbour → Bool
is_next Previous = false
is_next Next = true

-- text that is put in here goes before a place
abbrev pub goes_before : ℕ → Neighbour → ℕ → Bool
goes_before at side n = nat_lt at n || (at == n && is_next side)

-- the number of a place of the text, after a change of that
abbrev pub follows : Neighbour → Change → ℕ → ℕ
follows side (Insert at text) n = if goes_before at side n then min (n + length text) NOWHERE else n
follows side (Delete at count) n = if nat_le n at then n else at + ((n - at) - count.value)
follows side (Mark from to mark) n = n
follows side (Unmark from to key) n = n

-- the same, where a place that isn't there comes nowhere
abbrev pub moved : Neighbour → Change → ℕ → ℕ
moved side c n = if n == NOWHERE then NOWHERE else follows side c n

-- its number after changes one after another
abbrev pub moved_through : Neighbour → List Change → ℕ → ℕ
moved_through side [] n = n
moved_through side (c ∷ cs) n = moved_through side cs (moved side c n)

-- the number of a place after changes, by how many characters were before it when they began
abbrev pub number_after : (Lasting → Option ℕ) → List Change → Lasting → ℕ
number_after at done place = moved_through (neighbour_of place) done (begin (at place))

-- a change by numbers, after others
abbrev pub located : (Lasting → Option ℕ) → List Change → Change → Spots → Change
located at done c s = by_numbers c (option_map (number_after at done) s.from) (option_map (number_after at done) s.to)

-- changes by numbers, each after those that are done
abbrev pub located_in_turn : (Lasting → Option ℕ) → List Change → List Change → List Spots → List Change
located_in_turn at done [] spots = []
located_in_turn at done (c ∷ cs) spots =
    located at done c (spots_of spots) ∷ located_in_turn at (done ++ located at done c (spots_of spots) ∷ []) cs (drop 1 spots)

-- the action that is made, by how many characters are before each place
abbrev pub asked_by : (Lasting → Option ℕ) → Placed → Asked
asked_by at p = record p.asked { changes = located_in_turn at [] p.asked.changes p.spots }

-- the action that is made where the list of operations is this one
abbrev pub asked_at : List Op → Placed → Asked
asked_at ops p = asked_by (at_of ops p.asked.doc) p
