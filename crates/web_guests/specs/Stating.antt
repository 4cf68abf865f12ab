-- What a head says by one of its fields.
use Rattle.std.specs.Prelude.{◌≡◌, ◌<◌, ℕ, List, [], ◌∷◌, length, if◌then◌else◌}
use Rattle.std.specs.List.{flat_map}
use Rattle.websocket.specs.Headers.{Fields, eq_ignore_case}
use Rattle.web_guests.specs.declared.stated.Stated.{Stated}
use Rattle.web_guests.specs.declared.stated.Stated.TheVariants.{Never, Once, Often}

-- the value of a field, if it has this name in any case
abbrev pub said_by : List ℕ → List ℕ × List ℕ → List (List ℕ)
said_by name field = if eq_ignore_case field.0 name then field.1 ∷ [] else []

-- the values of the fields of this name
abbrev pub values_of : Fields → List ℕ → List (List ℕ)
values_of fields name = flat_map (said_by name) fields

-- these values are none, this one alone, or several
abbrev pub States : Stated → List (List ℕ) → Type 0
States Never values = values ≡ []
States (Once value) values = values ≡ value.now ∷ []
States Often values = 1 < length values
