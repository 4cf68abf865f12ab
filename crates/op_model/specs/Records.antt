-- How many bytes an operation's record takes, for the limit on the stream of a store.
use Rattle.std.specs.Prelude.{ℕ, ◌+◌, ◌*◌, List, length, [], ◌∷◌, Option, Some, None}
use Rattle.op_ids.specs.Id.{Id}
use Rattle.op_model.specs.declared.op.Op.{Op}
use Rattle.op_model.specs.declared.op.Body.{Body}
use Rattle.op_model.specs.declared.op.Body.TheVariants.{Insert, Remove, AddMark, RemoveMark}
use Rattle.op_model.specs.declared.anchor.Start.{Start}
use Rattle.op_model.specs.declared.anchor.Start.TheVariants as start
use Rattle.op_model.specs.declared.anchor.End.{End}
use Rattle.op_model.specs.declared.anchor.End.TheVariants as end
use Rattle.op_model.specs.declared.mark.Mark.{Mark}
use Rattle.op_model.specs.declared.mark.Mark.TheVariants as added
use Rattle.op_model.specs.declared.mark.MarkKey.{MarkKey}
use Rattle.op_model.specs.declared.mark.MarkKey.TheVariants as key

-- a tag, and 24 bytes for an id
abbrev pub origin_length : Option Id → ℕ
origin_length None = 1
origin_length (Some id) = 25

-- a tag, and 24 bytes for the id of an anchor
abbrev pub start_length : Start → ℕ
start_length start.OfText = 1
start_length (start.From anchor) = 25

-- the same at the end
abbrev pub end_length : End → ℕ
end_length (end.To anchor) = 25
end_length end.OfText = 1

-- a tag, and for a link two bytes of length and the URL, for a comment 16 bytes
abbrev pub mark_length : Mark → ℕ
mark_length added.Strong = 1
mark_length added.Em = 1
mark_length (added.Link url) = 3 + length url
mark_length (added.Comment id) = 17

-- a tag, and 16 bytes for a comment
abbrev pub key_length : MarkKey → ℕ
key_length key.Strong = 1
key_length key.Em = 1
key_length key.Link = 1
key_length (key.Comment id) = 17

-- the content of a record, by its kind
abbrev pub body_length : Body → ℕ
body_length (Insert origin value) = origin_length origin + 4
body_length (Remove target) = 24
body_length (AddMark mark start end) = mark_length mark + start_length start + end_length end
body_length (RemoveMark key start end) = key_length key + start_length start + end_length end

-- length 4, kind 1, document 4, id 24, number of deps 1, each of them 24
abbrev pub head_length : ℕ → ℕ
head_length deps = 34 + 24 * deps

-- 16 bytes for a token, if there is one
abbrev pub token_length : Option ℕ → ℕ
token_length None = 0
token_length (Some token) = 16

-- the head, for as many deps as the operation has, the token and the content
abbrev pub record_length : Op → ℕ
record_length op = head_length (length op.deps) + token_length op.token + body_length op.body

-- the records of all operations, one after another
abbrev pub stream_length : List Op → ℕ
stream_length [] = 0
stream_length (op ∷ ops) = record_length op + stream_length ops
