-- The place of an edit: a number of characters, or a place that lasts.
use Rattle.std.specs.Prelude.{ℕ, List, Option, Some, None, option_map, option_and_then, Result}
use Rattle.std.specs.Option.{option_or}
use Rattle.serde_json.specs.Data.{Data}
use Rattle.serde_json.specs.Find.{get}
use Rattle.op_model.specs.declared.lasting.Lasting.{Lasting}
use Rattle.session_lines.specs.declared.refusal.Refusal.{Refusal}
use Rattle.session_lines.specs.declared.spot.Spot.{Spot}
use Rattle.session_lines.specs.Fields.{or_field, as_whole}
use Rattle.session_lines.specs.Several.{as_lasting}

-- a number of characters
abbrev pub by_number : ℕ → Spot
by_number n = record { number = n; place = None }

-- a place that lasts
abbrev pub at_place : Lasting → Spot
at_place place = record { number = 0; place = Some place }

-- a whole number, or the text of a place that lasts
abbrev pub as_spot : Data → Option Spot
as_spot d = option_or (option_map by_number (as_whole 0 d)) (option_map at_place (as_lasting d))

-- the field of this name, a place of the text
abbrev pub spot_at : List ℕ → Data → Result Spot Refusal
spot_at key d = or_field (option_and_then as_spot (get key d))
