-- Where in the text of a document its mark operations are in force.
use Rattle.std.specs.Prelude.{ℕ, ◌+◌, ◌*◌, Bool, ◌&&◌, nat_lt, nat_le, List, filter}
use Rattle.op_model.specs.declared.character.Character.{Character}
use Rattle.op_model.specs.declared.marking.Marking.{Marking}
use Rattle.op_model.specs.Places.{start_place, end_place}
use Rattle.mark_anchors.specs.declared.place.Place.{Place}
use Rattle.mark_anchors.specs.declared.place.Place.TheVariants.{OfStart, Before, After}

-- the number of a place, as the model numbers the places of a text
abbrev pub number : Place → ℕ
number OfStart = 0
number (Before k) = 2 * k + 1
number (After k) = 2 * k + 2

-- a mark operation is in force at a place: it begins at the latest there, and ends behind it
abbrev pub is_in_force : List Character → ℕ → Marking → Bool
is_in_force cs place m = nat_le (start_place cs m.start) place && nat_lt place (end_place cs m.end)

-- of these mark operations those that are in force at a place
abbrev pub in_force : List Character → ℕ → List Marking → List Marking
in_force cs place ms = filter (λ m. is_in_force cs place m) ms
