-- The requests that look for a text, or read a document in another form.
use Rattle.std.specs.Prelude.{ℕ, nat_le, Bool, false, if◌then◌else◌, List, [], ◌∷◌, length, Option, Some, None, option_and_then, Result, Ok, codes}
use Rattle.serde_json.specs.Data.{Data}
use Rattle.serde_json.specs.Find.{get, as_bool}
use Rattle.fixed_numbers.specs.declared.limits.TheConstants.{MAX_EDIT}
use Rattle.span_export.specs.Exported.{form_named}
use Rattle.span_export.specs.declared.exporting.Form.{Form}
use Rattle.session_lines.specs.declared.command.Command.{Command}
use Rattle.session_lines.specs.declared.command.Command.TheVariants as command
use Rattle.session_lines.specs.declared.refusal.Refusal.{Refusal}
use Rattle.session_lines.specs.Fields.{◌>>=◌, or_field, if_whole, text_at, characters_of, only, whole}

-- at most 256 characters
abbrev pub not_long : List ℕ → Option (List ℕ)
not_long cs = if nat_le (length cs) MAX_EDIT then Some cs else None

-- the characters that are looked for
abbrev pub sought_of : Data → Result (List ℕ) Refusal
sought_of d = characters_of d >>= λ cs. or_field (not_long cs)

-- a number, or 0
abbrev pub or_zero : Option ℕ → ℕ
or_zero None = 0
or_zero (Some n) = n

-- the number of characters from which on they are looked for
abbrev pub from_of : Data → Result ℕ Refusal
from_of d = if_whole (get (codes "from") d) >>= λ n. Ok (or_zero n)

-- the request where a text stands
abbrev pub find_asked : Data → Result Command Refusal
find_asked d =
    only (codes "op" ∷ codes "doc" ∷ codes "text" ∷ codes "from" ∷ []) d >>= λ _.
    whole (codes "doc") 1 d >>= λ doc.
    sought_of d >>= λ text.
    from_of d >>= λ from.
    Ok (command.Find doc text from)

-- true or false, or false if nothing is said
abbrev pub if_said : Option Data → Result Bool Refusal
if_said None = Ok false
if_said (Some d) = or_field (as_bool d)

-- whether breaks of the line are asked for in place of paragraphs
abbrev pub breaks_of : Data → Result Bool Refusal
breaks_of d = if_said (get (codes "breaks") d)

-- the form that a document is asked for in
abbrev pub form_of : Data → Result Form Refusal
form_of d =
    breaks_of d >>= λ breaks.
    or_field (option_and_then (λ name. form_named name breaks) (text_at (codes "to") d))

-- the request for a document as other programs read it
abbrev pub export_asked : Data → Result Command Refusal
export_asked d =
    only (codes "op" ∷ codes "doc" ∷ codes "to" ∷ codes "breaks" ∷ []) d >>= λ _.
    whole (codes "doc") 1 d >>= λ doc.
    form_of d >>= λ form.
    Ok (command.Export doc form)
