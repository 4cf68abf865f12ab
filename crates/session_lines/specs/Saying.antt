-- What a session is answered, as text: compact JSON with the keys in the order of their bytes, and a line feed.
use Rattle.std.specs.Prelude.{ℕ, ◌-◌, List, [], ◌∷◌, ◌++◌, length, take, Bool, true, false, if◌then◌else◌, Option, Some, None}
use Rattle.std.specs.Prelude.{slice_get, codes, decimal, encode_utf8_all}
use Rattle.std.specs.Int.{w128, to_be_bytes}
use Rattle.uuid.specs.Text.{lower, hyphenated_text}
use Rattle.fixed_numbers.specs.declared.refusals.TheConstants.{BUSY, FAILED, FIELD, LIMIT, LINE, MEMORY, RANGE, REQUEST, STALE, STEPS, STOPPING, SYNTAX}
use Rattle.op_model.specs.declared.change_step.ChangeStep.{ChangeStep}
use Rattle.op_model.specs.declared.change_step.ChangeStep.TheVariants as change
use Rattle.op_model.specs.declared.lasting.Lasting.{Lasting}
use Rattle.op_model.specs.declared.mark.Marks.{Marks}
use Rattle.op_model.specs.declared.span.Span.{Span}
use Rattle.list_counts.specs.declared.peer_counts.PeerCounts.{PeerCounts}
use Rattle.session_lines.specs.declared.refusal.Refusal.{Refusal}
use Rattle.session_lines.specs.declared.refusal.Refusal.TheVariants as refusal
use Rattle.session_lines.specs.declared.answer.Answer.{Answer}
use Rattle.session_lines.specs.declared.answer.Answer.TheVariants as answer
use Rattle.session_lines.specs.declared.answer.State.{State}
use Rattle.session_lines.specs.declared.answer.State.TheVariants as state
use Rattle.session_lines.specs.Anchors.{lasting_text}
use Rattle.session_lines.specs.Counting.{said_counted, said_room, said_versions}
use Rattle.session_lines.specs.Words.{quoted, said_list, said_replica}

-- the number of a refusal
abbrev pub number_of : Refusal → ℕ
number_of refusal.Memory = MEMORY
number_of refusal.Syntax = SYNTAX
number_of refusal.Request = REQUEST
number_of refusal.Field = FIELD
number_of refusal.Range = RANGE
number_of refusal.Stale = STALE
number_of refusal.Limit = LIMIT
number_of refusal.Busy = BUSY
number_of refusal.Failed = FAILED
number_of refusal.Steps = STEPS
number_of refusal.Line = LINE
number_of refusal.Stopping = STOPPING

-- the word of a refusal
abbrev pub word_of : Refusal → List ℕ
word_of refusal.Memory = codes "memory"
word_of refusal.Syntax = codes "syntax"
word_of refusal.Request = codes "request"
word_of refusal.Field = codes "field"
word_of refusal.Range = codes "range"
word_of refusal.Stale = codes "stale"
word_of refusal.Limit = codes "limit"
word_of refusal.Busy = codes "busy"
word_of refusal.Failed = codes "failed"
word_of refusal.Steps = codes "steps"
word_of refusal.Line = codes "line"
word_of refusal.Stopping = codes "stopping"

-- the word of a state
abbrev pub state_word : State → List ℕ
state_word state.Open = codes "open"
state_word state.Stopping = codes "stopping"
state_word state.Failed = codes "failed"

-- characters as a JSON string
abbrev pub said_characters : List ℕ → List ℕ
said_characters characters = quoted (encode_utf8_all characters)

-- the name of a comment as a JSON string: a UUID, hyphenated in lower case
abbrev pub said_id : ℕ → List ℕ
said_id id = quoted (hyphenated_text lower (to_be_bytes w128 id))

-- the member of the comments, where there are some
abbrev pub said_comments : List ℕ → List ℕ
said_comments [] = []
said_comments (id ∷ ids) = codes "\"comments\":[" ++ (said_list said_id false (id ∷ ids) ++ codes ",")

-- the member of a mark, where there is one
abbrev pub said_if : Bool → List ℕ → List ℕ
said_if true member = member
said_if false member = []

-- the member of the link, where there is one
abbrev pub said_link : Option (List ℕ) → List ℕ
said_link None = []
said_link (Some url) = codes "\"link\":" ++ (quoted url ++ codes ",")

-- the members of the marks that there are, each with a comma
abbrev pub said_marks : Marks → List ℕ
said_marks m =
    said_comments m.comments
    ++ (said_if m.em (codes "\"em\":true,") ++ (said_link m.link ++ said_if m.strong (codes "\"strong\":true,")))

-- a span: its marks, and then its text
abbrev pub said_span : Span → List ℕ
said_span s = codes "{" ++ (said_marks s.marks ++ (codes "\"text\":" ++ (said_characters s.text ++ codes "}")))

-- a place that lasts as a JSON string: no character of it wants a backslash
abbrev pub said_anchor : Lasting → List ℕ
said_anchor place = codes "\"" ++ (lasting_text place ++ codes "\"")

-- where a place stands, or that it isn't known
abbrev pub said_place : Option ℕ → List ℕ
said_place None = codes "null"
said_place (Some at) = decimal at

-- without the last byte
abbrev pub but_last : List ℕ → List ℕ
but_last bytes = take (length bytes - 1) bytes

-- the marks that there are as attributes, if there are any
abbrev pub said_attributes : List ℕ → List ℕ
said_attributes [] = codes "{"
said_attributes (b ∷ bs) = codes "{\"attributes\":{" ++ (but_last (b ∷ bs) ++ codes "},")

-- characters that come: their marks, and then the text
abbrev pub said_put : Span → List ℕ
said_put s = said_attributes (said_marks s.marks) ++ (codes "\"insert\":" ++ (said_characters s.text ++ codes "}"))

-- the comments that characters have now, or that they have none
abbrev pub said_comments_now : List ℕ → List ℕ
said_comments_now [] = codes "{\"comments\":null"
said_comments_now (id ∷ ids) = codes "{\"comments\":[" ++ said_list said_id false (id ∷ ids)

-- whether they have a mark now
abbrev pub said_now : Bool → List ℕ
said_now true = codes "true"
said_now false = codes "null"

-- the link that they have now, or that they have none
abbrev pub said_link_now : Option (List ℕ) → List ℕ
said_link_now None = codes "null"
said_link_now (Some url) = quoted url

-- all that characters have and don't have now
abbrev pub said_marks_now : Marks → List ℕ
said_marks_now m =
    said_comments_now m.comments
    ++ (codes ",\"em\":" ++ (said_now m.em
    ++ (codes ",\"link\":" ++ (said_link_now m.link ++ (codes ",\"strong\":" ++ (said_now m.strong ++ codes "}"))))))

-- a step over a text
abbrev pub said_step : ChangeStep → List ℕ
said_step (change.Keep n) = codes "{\"retain\":" ++ (decimal n ++ codes "}")
said_step (change.Drop n) = codes "{\"delete\":" ++ (decimal n ++ codes "}")
said_step (change.Put span) = said_put span
said_step (change.Mark n marks) = codes "{\"attributes\":" ++ (said_marks_now marks ++ (codes ",\"retain\":" ++ (decimal n ++ codes "}")))

-- a step keeps characters as they are
abbrev pub is_kept : Option ChangeStep → Bool
is_kept None = false
is_kept (Some (change.Keep n)) = true
is_kept (Some (change.Drop n)) = false
is_kept (Some (change.Put span)) = false
is_kept (Some (change.Mark n marks)) = false

-- steps without a last one that keeps characters as they are
abbrev pub but_last_kept : List ChangeStep → List ChangeStep
but_last_kept steps = if is_kept (slice_get steps (length steps - 1)) then take (length steps - 1) steps else steps

-- the answer what changed
abbrev pub said_changed : ℕ → List ChangeStep → List ℕ
said_changed rev steps =
    codes "{\"changes\":[" ++ (said_list said_step false (but_last_kept steps) ++ (codes ",\"ok\":true,\"rev\":" ++ (decimal rev ++ codes "}\n")))

-- the answer that names places
abbrev pub said_named : ℕ → List Lasting → List ℕ
said_named rev places =
    codes "{\"anchors\":[" ++ (said_list said_anchor false places ++ (codes ",\"ok\":true,\"rev\":" ++ (decimal rev ++ codes "}\n")))

-- the answer where places stand
abbrev pub said_standing : ℕ → List (Option ℕ) → List ℕ
said_standing rev places =
    codes "{\"ok\":true,\"places\":[" ++ (said_list said_place false places ++ (codes ",\"rev\":" ++ (decimal rev ++ codes "}\n")))

-- the answer to an edit
abbrev pub said_edited : ℕ → List ℕ
said_edited rev = codes "{\"ok\":true,\"rev\":" ++ (decimal rev ++ codes "}\n")

-- the line that tells how many settled operations one of several watched documents has
abbrev pub said_watched : ℕ → ℕ → List ℕ
said_watched doc rev =
    codes "{\"doc\":" ++ (decimal doc ++ (codes ",\"ok\":true,\"rev\":" ++ (decimal rev ++ codes "}\n")))

-- the answer that shows a text
abbrev pub said_text : ℕ → List ℕ → List ℕ
said_text rev text =
    codes "{\"ok\":true,\"rev\":" ++ (decimal rev ++ (codes ",\"text\":" ++ (said_characters text ++ codes "}\n")))

-- the answer that has a document as other programs read it
abbrev pub said_exported : ℕ → List ℕ → List ℕ
said_exported rev bytes =
    codes "{\"ok\":true,\"rev\":" ++ (decimal rev ++ (codes ",\"text\":" ++ (quoted bytes ++ codes "}\n")))

-- the answer that lists spans
abbrev pub said_listed : ℕ → List Span → List ℕ
said_listed rev spans =
    codes "{\"ok\":true,\"rev\":" ++ (decimal rev ++ (codes ",\"spans\":[" ++ (said_list said_span false spans ++ codes "}\n")))

-- the answer that says how far a replica is
abbrev pub said_status : ℕ → ℕ → State → List ℕ
said_status applied settled state =
    codes "{\"applied\":" ++ (decimal applied
    ++ (codes ",\"ok\":true,\"settled\":" ++ (decimal settled
    ++ (codes ",\"state\":\"" ++ (state_word state ++ codes "\"}\n")))))

-- a peer: what it has, what it lacks, and its replica
abbrev pub said_peer : PeerCounts → List ℕ
said_peer p =
    codes "{\"has\":" ++ (decimal p.has
    ++ (codes ",\"lacks\":" ++ (decimal p.lacks
    ++ (codes ",\"replica\":" ++ (said_replica p.replica ++ codes "}")))))

-- the answer that says who is connected
abbrev pub said_connected : List PeerCounts → ℕ → List ℕ
said_connected peers sessions =
    codes "{\"ok\":true,\"peers\":[" ++ (said_list said_peer false peers
    ++ (codes ",\"sessions\":" ++ (decimal sessions ++ codes "}\n")))

-- the answer that says why a request isn't served
abbrev pub said_refused : Refusal → List ℕ
said_refused r =
    codes "{\"code\":" ++ (decimal (number_of r)
    ++ (codes ",\"error\":\"" ++ (word_of r ++ codes "\",\"ok\":false}\n")))

-- the answer that says which of several edits isn't made, counted from 0, and why
abbrev pub said_refused_at : Refusal → ℕ → List ℕ
said_refused_at r at =
    codes "{\"at\":" ++ (decimal at
    ++ (codes ",\"code\":" ++ (decimal (number_of r)
    ++ (codes ",\"error\":\"" ++ (word_of r ++ codes "\",\"ok\":false}\n")))))

-- the answer that tells no more than that all is done
abbrev pub said_done : List ℕ
said_done = codes "{\"ok\":true}\n"

-- an answer as text, with its line feed
abbrev pub said : Answer → List ℕ
said (answer.Edited rev) = said_edited rev
said (answer.Text rev text) = said_text rev text
said (answer.Spans rev spans) = said_listed rev spans
said (answer.Versions rev versions) = said_versions rev versions
said (answer.Changes rev changes) = said_changed rev changes
said (answer.Anchors rev anchors) = said_named rev anchors
said (answer.Places rev places) = said_standing rev places
said (answer.Exported rev text) = said_exported rev text
said (answer.Status applied settled state) = said_status applied settled state
said (answer.Peers peers sessions) = said_connected peers sessions
said (answer.Documents documents) = said_counted documents
said (answer.Room room) = said_room room
said answer.Stopped = said_done
said answer.Done = said_done
said (answer.Refused r) = said_refused r
said (answer.RefusedAt r at) = said_refused_at r at

-- an answer that shows what documents have, who is linked, or the room needs memory to be said
abbrev pub is_long : Answer → Bool
is_long (answer.Edited rev) = false
is_long (answer.Text rev text) = true
is_long (answer.Spans rev spans) = true
is_long (answer.Versions rev versions) = true
is_long (answer.Changes rev changes) = true
is_long (answer.Anchors rev anchors) = true
is_long (answer.Places rev places) = true
is_long (answer.Exported rev text) = true
is_long (answer.Status applied settled state) = false
is_long (answer.Peers peers sessions) = true
is_long (answer.Documents documents) = true
is_long (answer.Room room) = true
is_long answer.Stopped = false
is_long answer.Done = false
is_long (answer.Refused r) = false
is_long (answer.RefusedAt r at) = false
