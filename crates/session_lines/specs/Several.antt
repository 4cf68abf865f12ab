-- Fields of a request that list several values, and the side of a place.
use Rattle.std.specs.Prelude.{ℕ, ◌&&◌, nat_le, if◌then◌else◌, List, [], ◌∷◌, length, Option, Some, None, option_map, option_and_then, Result, codes}
use Rattle.std.specs.Str.{bytes_eq}
use Rattle.serde_json.specs.Data.{Data, Items, no_items, item}
use Rattle.serde_json.specs.Find.{get, as_array, as_str}
use Rattle.op_model.specs.declared.lasting.Lasting.{Lasting}
use Rattle.op_model.specs.declared.lasting.Neighbour.{Neighbour}
use Rattle.op_model.specs.declared.lasting.Neighbour.TheVariants.{Previous, Next}
use Rattle.session_lines.specs.declared.refusal.Refusal.{Refusal}
use Rattle.session_lines.specs.declared.several.TheConstants.{MAX_PLACES}
use Rattle.session_lines.specs.Anchors.{lasting_named}
use Rattle.session_lines.specs.Fields.{or_field, as_whole, text_at}

-- what each item is read as, if each is
abbrev pub each : {A : Type 0} → (Data → Option A) → Items → Option (List A)
each read no_items = Some []
each read (item d ds) = option_and_then (λ x. option_map (λ xs. x ∷ xs) (each read ds)) (read d)

-- 1 to 256 of them
abbrev pub some_of : {A : Type 0} → List A → Option (List A)
some_of xs = if nat_le 1 (length xs) && nat_le (length xs) MAX_PLACES then Some xs else None

-- the field of this name, a list of 1 to 256 values
abbrev pub several : {A : Type 0} → (Data → Option A) → List ℕ → Data → Result (List A) Refusal
several read key d = or_field (option_and_then (λ items. option_and_then some_of (each read items)) (option_and_then as_array (get key d)))

-- the numbers of visible characters before some places
abbrev pub numbers_of : Data → Result (List ℕ) Refusal
numbers_of d = several (as_whole 0) (codes "at") d

-- a place that lasts, as a text
abbrev pub as_lasting : Data → Option Lasting
as_lasting d = option_and_then lasting_named (as_str d)

-- some places that last
abbrev pub anchors_of : Data → Result (List Lasting) Refusal
anchors_of d = several as_lasting (codes "anchors") d

-- the neighbour of this name
abbrev pub side_named : List ℕ → Option Neighbour
side_named name =
    if bytes_eq name (codes "previous") then Some Previous else if bytes_eq name (codes "next") then Some Next else None

-- the neighbour that places stay with
abbrev pub side_of : Data → Result Neighbour Refusal
side_of d = or_field (option_and_then side_named (text_at (codes "side") d))
