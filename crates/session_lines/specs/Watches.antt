-- The documents of whose changes a line asks to be told.
use Rattle.std.specs.Prelude.{ℕ, Bool, ◌&&◌, nat_le, if◌then◌else◌, List, [], ◌∷◌, length, Option, Some, None, option_and_then, Result, Ok, Err, codes}
use Rattle.std.specs.Str.{bytes_eq}
use Rattle.serde_json.specs.Data.{Data}
use Rattle.serde_json.specs.Find.{get, as_array, as_str}
use Rattle.session_lines.specs.declared.refusal.Refusal.{Refusal}
use Rattle.session_lines.specs.declared.refusal.Refusal.TheVariants.{Field}
use Rattle.session_lines.specs.declared.several.TheConstants.{MAX_WATCHED}
use Rattle.session_lines.specs.declared.watching.Watching.{Watching}
use Rattle.session_lines.specs.declared.watching.Watching.TheVariants as watching
use Rattle.session_lines.specs.Fields.{◌>>=◌, or_field, as_whole, only, whole}
use Rattle.session_lines.specs.Requests.{doc_fields, or_syntax, reading, watch_name}
use Rattle.session_lines.specs.Several.{each}

-- the name of all documents
abbrev pub all_named : List ℕ → Bool
all_named name = bytes_eq name (codes "all")

-- 1 to 1,024 of them
abbrev pub some_watched : List ℕ → Option (List ℕ)
some_watched docs = if nat_le 1 (length docs) && nat_le (length docs) MAX_WATCHED then Some docs else None

-- a list of 1 to 1,024 documents
abbrev pub documents_of : Data → Result (List ℕ) Refusal
documents_of d = or_field (option_and_then (λ items. option_and_then some_watched (each (as_whole 1) items)) (as_array d))

-- a text names all documents, or none
abbrev pub by_name : Option (List ℕ) → Result Watching Refusal → Result Watching Refusal
by_name (Some name) listed = if all_named name then Ok watching.All else Err Field
by_name None listed = listed

-- documents, one by one, or all of them
abbrev pub these_of : Data → Result Watching Refusal
these_of docs = by_name (as_str docs) (documents_of docs >>= λ numbers. Ok (watching.These numbers))

-- the request to be told of several documents
abbrev pub several_asked : Data → Data → Result Watching Refusal
several_asked d docs = only (codes "op" ∷ codes "docs" ∷ []) d >>= λ _. these_of docs

-- the request to be told of one document
abbrev pub one_asked : Data → Result Watching Refusal
one_asked d = only doc_fields d >>= λ _. whole (codes "doc") 1 d >>= λ doc. Ok (watching.One doc)

-- the request with these documents, if it has any
abbrev pub asked_with : Data → Option Data → Result Watching Refusal
asked_with d (Some docs) = several_asked d docs
asked_with d None = one_asked d

-- the documents of whose changes a JSON value asks to be told
abbrev pub watch_of : Data → Result Watching Refusal
watch_of d = watch_name d >>= λ _. asked_with d (get (codes "docs") d)

-- the documents of whose changes a line asks to be told, or why it is no such request
abbrev pub watched_by : List ℕ → Result Watching Refusal
watched_by line = or_syntax (reading line) >>= λ d. watch_of d
