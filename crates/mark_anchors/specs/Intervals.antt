-- Used by private functions and proofs alone.
--
-- From where to where a mark operation is in force.
use Rattle.std.specs.Prelude.{ℕ, Bool, ◌&&◌, nat_lt, nat_le, List, length}
use Rattle.op_model.specs.declared.anchor.Anchor.{Anchor}
use Rattle.op_model.specs.declared.anchor.Anchor.TheVariants as anchor
use Rattle.op_model.specs.declared.anchor.Start.{Start}
use Rattle.op_model.specs.declared.anchor.Start.TheVariants as start
use Rattle.op_model.specs.declared.anchor.End.{End}
use Rattle.op_model.specs.declared.anchor.End.TheVariants as end
use Rattle.op_model.specs.declared.character.Character.{Character}
use Rattle.op_model.specs.declared.marking.Marking.{Marking}
use Rattle.op_model.specs.Places.{index_of}
use Rattle.mark_anchors.specs.declared.place.Interval.{Interval}
use Rattle.mark_anchors.specs.declared.place.Place.{Place}
use Rattle.mark_anchors.specs.declared.place.Place.TheVariants.{OfStart, Before, After}
use Rattle.mark_anchors.specs.Force.{number}

-- the place of an anchor
abbrev pub place_of : List Character → Anchor → Place
place_of cs (anchor.Before id) = Before (index_of id cs)
place_of cs (anchor.After id) = After (index_of id cs)

-- the place where a mark operation with this start begins
abbrev pub place_of_start : List Character → Start → Place
place_of_start cs start.OfText = OfStart
place_of_start cs (start.From at) = place_of cs at

-- the place where a mark operation with this end ends
abbrev pub place_of_end : List Character → End → Place
place_of_end cs (end.To at) = place_of cs at
place_of_end cs end.OfText = Before (length cs)

-- the places from the one where a mark operation begins to the one where it ends
abbrev pub interval_of : List Character → Marking → Interval
interval_of cs m = record { from = place_of_start cs m.start; to = place_of_end cs m.end }

-- a place with this number is one of these
abbrev pub is_within : Interval → ℕ → Bool
is_within i place = nat_le (number i.from) place && nat_lt place (number i.to)
