-- Which answers are no refusals.
use Rattle.std.specs.Prelude.{ℕ, Bool, false, List, codes, Option, Some, None, option_and_then, unwrap_or}
use Rattle.session_lines.specs.Requests.{reading}
use Rattle.serde_json.specs.Data.{Data}
use Rattle.serde_json.specs.Find.{as_bool, get}

-- a value is an object whose `ok` is true
abbrev pub is_given : Data → Bool
is_given d = unwrap_or (option_and_then as_bool (get (codes "ok") d)) false

-- what is no JSON value doesn't say so
abbrev pub is_read_and_given : Option Data → Bool
is_read_and_given None = false
is_read_and_given (Some d) = is_given d

-- a line is a JSON object whose `ok` is true
abbrev pub says_ok : List ℕ → Bool
says_ok line = is_read_and_given (reading line)
