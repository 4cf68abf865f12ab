-- Several places of a document that last, and where they stand.
use Rattle.std.specs.Prelude.{ℕ, Bool, nat_le, List, length, map, Option}
use Rattle.std.specs.List.{list_all}
use Rattle.op_model.specs.declared.op.Op.{Op}
use Rattle.op_model.specs.declared.lasting.Lasting.{Lasting}
use Rattle.op_model.specs.declared.lasting.Neighbour.{Neighbour}
use Rattle.op_model.specs.Lasting.{at_of, place_of}
use Rattle.op_model.specs.Text.{visible}

-- none of these numbers is beyond the end of the document's text
abbrev pub are_within : List Op → ℕ → List ℕ → Bool
are_within ops doc at = list_all (λ n. nat_le n (length (visible ops doc))) at

-- the places after so many visible characters each, that stay with this neighbour
abbrev pub anchors_of : List Op → ℕ → List ℕ → Neighbour → List Lasting
anchors_of ops doc at side = map (λ n. place_of ops doc n side) at

-- how many visible characters stand before each place, if it is there
abbrev pub places_of : List Op → ℕ → List Lasting → List (Option ℕ)
places_of ops doc anchors = map (at_of ops doc) anchors
