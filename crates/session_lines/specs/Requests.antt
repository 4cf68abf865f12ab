-- What a line of a session asks for.
use Rattle.std.specs.Prelude.{ℕ, List, [], ◌∷◌, Option, Some, None, option_and_then, Result, Ok, Err, codes, if◌then◌else◌, ⊤}
use Rattle.std.specs.Str.{is_utf8, bytes_eq}
use Rattle.serde_json.specs.Data.{Data}
use Rattle.serde_json.specs.Read.{read}
use Rattle.session_lines.specs.declared.command.Command.{Command}
use Rattle.session_lines.specs.declared.command.Command.TheVariants as command
use Rattle.session_lines.specs.declared.refusal.Refusal.{Refusal}
use Rattle.session_lines.specs.declared.refusal.Refusal.TheVariants.{Syntax, Request}
use Rattle.session_lines.specs.declared.verb.Verb.{Verb}
use Rattle.session_lines.specs.declared.verb.Verb.TheVariants as verb
use Rattle.session_lines.specs.Edits.{edit_asked, edits_asked}
use Rattle.session_lines.specs.Fields.{◌>>=◌, verb_named, text_at, only, whole, at_rev_of}
use Rattle.session_lines.specs.Reading.{find_asked, export_asked}
use Rattle.session_lines.specs.Several.{numbers_of, anchors_of, side_of}

-- what isn't there is no request
abbrev pub or_request : {A : Type 0} → Option A → Result A Refusal
or_request None = Err Request
or_request (Some x) = Ok x

-- which request is made
abbrev pub verb_of : Data → Result Verb Refusal
verb_of d = or_request (option_and_then verb_named (text_at (codes "op") d))

-- the field that names a document
abbrev pub doc_fields : List (List ℕ)
doc_fields = codes "op" ∷ codes "doc" ∷ []

-- the fields of a request that shows a document: of now, or as it was when it had so many operations
abbrev pub shown_fields : List (List ℕ)
shown_fields = codes "op" ∷ codes "doc" ∷ codes "at_rev" ∷ []

-- a request that has no field but its name
abbrev pub bare_asked : Command → Data → Result Command Refusal
bare_asked command d = only (codes "op" ∷ []) d >>= λ _. Ok command

-- the request for a text
abbrev pub text_asked : Data → Result Command Refusal
text_asked d =
    only shown_fields d >>= λ _.
    whole (codes "doc") 1 d >>= λ doc.
    at_rev_of d >>= λ at_rev.
    Ok (command.Text doc at_rev)

-- the request for spans
abbrev pub spans_asked : Data → Result Command Refusal
spans_asked d =
    only shown_fields d >>= λ _.
    whole (codes "doc") 1 d >>= λ doc.
    at_rev_of d >>= λ at_rev.
    Ok (command.Spans doc at_rev)

-- the request for versions
abbrev pub versions_asked : Data → Result Command Refusal
versions_asked d =
    only (codes "op" ∷ codes "doc" ∷ codes "every" ∷ []) d >>= λ _.
    whole (codes "doc") 1 d >>= λ doc.
    whole (codes "every") 1 d >>= λ every.
    Ok (command.Versions doc every)

-- the request what changed
abbrev pub changes_asked : Data → Result Command Refusal
changes_asked d =
    only (codes "op" ∷ codes "doc" ∷ codes "since" ∷ []) d >>= λ _.
    whole (codes "doc") 1 d >>= λ doc.
    whole (codes "since") 0 d >>= λ since.
    Ok (command.Changes doc since)

-- the request for places that last
abbrev pub anchors_asked : Data → Result Command Refusal
anchors_asked d =
    only (codes "op" ∷ codes "doc" ∷ codes "at" ∷ codes "side" ∷ []) d >>= λ _.
    whole (codes "doc") 1 d >>= λ doc.
    numbers_of d >>= λ at.
    side_of d >>= λ side.
    Ok (command.Anchors doc at side)

-- the request where such places stand
abbrev pub places_asked : Data → Result Command Refusal
places_asked d =
    only (codes "op" ∷ codes "doc" ∷ codes "anchors" ∷ []) d >>= λ _.
    whole (codes "doc") 1 d >>= λ doc.
    anchors_of d >>= λ anchors.
    Ok (command.Places doc anchors)

-- the command of each request
abbrev pub command_of : Verb → Data → Result Command Refusal
command_of verb.Insert d = edit_asked verb.Insert d
command_of verb.Delete d = edit_asked verb.Delete d
command_of verb.Mark d = edit_asked verb.Mark d
command_of verb.Unmark d = edit_asked verb.Unmark d
command_of verb.Edits d = edits_asked d
command_of verb.Text d = text_asked d
command_of verb.Spans d = spans_asked d
command_of verb.Versions d = versions_asked d
command_of verb.Changes d = changes_asked d
command_of verb.Anchors d = anchors_asked d
command_of verb.Places d = places_asked d
command_of verb.Find d = find_asked d
command_of verb.Export d = export_asked d
command_of verb.Status d = bare_asked command.Status d
command_of verb.Peers d = bare_asked command.Peers d
command_of verb.Documents d = bare_asked command.Documents d
command_of verb.Room d = bare_asked command.Room d
command_of verb.Stop d = bare_asked command.Stop d

-- what a JSON value asks for
abbrev pub request_of : Data → Result Command Refusal
request_of d = verb_of d >>= λ verb. command_of verb d

-- the JSON value that a line is, in UTF-8
abbrev pub reading : List ℕ → Option Data
reading line = if is_utf8 line then read line else None

-- a line that is no JSON value is refused
abbrev pub or_syntax : Option Data → Result Data Refusal
or_syntax None = Err Syntax
or_syntax (Some d) = Ok d

-- what a line asks for, or why it isn't served: syntax, request and field are found in this order
abbrev pub answer_to : List ℕ → Result Command Refusal
answer_to line = or_syntax (reading line) >>= λ d. request_of d

-- the name of a request to be told of changes, which alone is made so
abbrev pub watch_named : List ℕ → Option ⊤
watch_named name = if bytes_eq name (codes "watch") then Some tt else None

-- a request of another name isn't one to be told of changes
abbrev pub watch_name : Data → Result ⊤ Refusal
watch_name d = or_request (option_and_then watch_named (text_at (codes "op") d))
