-- The one spelling of each operation in bytes. Numbers have their highest byte first.
use Rattle.std.specs.Prelude.{◌≡◌, ℕ, ◌+◌, Bool, true, false, List, [], ◌∷◌, ◌++◌, length, Option, Some, None, is_some}
use Rattle.std.specs.Int.{Width, w16, w32, w64, w128, to_be_bytes}
use Rattle.op_ids.specs.Id.{Id}
use Rattle.op_model.specs.declared.op.Op.{Op}
use Rattle.op_model.specs.declared.op.Body.{Body}
use Rattle.op_model.specs.declared.op.Body.TheVariants.{Insert, Remove, AddMark, RemoveMark}
use Rattle.op_model.specs.declared.anchor.Anchor.{Anchor}
use Rattle.op_model.specs.declared.anchor.Anchor.TheVariants.{Before, After}
use Rattle.op_model.specs.declared.anchor.Start.{Start}
use Rattle.op_model.specs.declared.anchor.Start.TheVariants as start
use Rattle.op_model.specs.declared.anchor.End.{End}
use Rattle.op_model.specs.declared.anchor.End.TheVariants as end
use Rattle.op_model.specs.declared.mark.Mark.{Mark}
use Rattle.op_model.specs.declared.mark.Mark.TheVariants as added
use Rattle.op_model.specs.declared.mark.MarkKey.{MarkKey}
use Rattle.op_model.specs.declared.mark.MarkKey.TheVariants as key

-- a number in the bytes of its width, the highest first
unfoldable pub number_bytes : Width → ℕ → List ℕ
number_bytes w n = to_be_bytes w n

-- the counter in eight bytes, and the replica in sixteen
unfoldable pub id_bytes : Id → List ℕ
id_bytes id = number_bytes w64 id.counter ++ number_bytes w128 id.replica

-- the replica in sixteen bytes, and its count in eight
unfoldable pub entry_bytes : ℕ × ℕ → List ℕ
entry_bytes entry = number_bytes w128 entry.0 ++ number_bytes w64 entry.1

-- the entries of a clock, one after another
abbrev pub entries_bytes : List (ℕ × ℕ) → List ℕ
entries_bytes [] = []
entries_bytes (e ∷ es) = entry_bytes e ++ entries_bytes es

-- one byte for the number of entries, and the entries
unfoldable pub deps_bytes : List (ℕ × ℕ) → List ℕ
deps_bytes es = length es ∷ entries_bytes es

-- 0, or 1 and the id of the origin
unfoldable pub origin_bytes : Option Id → List ℕ
origin_bytes None = 0 ∷ []
origin_bytes (Some id) = 1 ∷ id_bytes id

-- two bytes for the length, and that many bytes of UTF-8
unfoldable pub url_bytes : List ℕ → List ℕ
url_bytes text = number_bytes w16 (length text) ++ text

-- 1 strong, 2 em, 3 and a URL, 4 and the sixteen bytes of a comment's name
unfoldable pub mark_bytes : Mark → List ℕ
mark_bytes added.Strong = 1 ∷ []
mark_bytes added.Em = 2 ∷ []
mark_bytes (added.Link url) = 3 ∷ url_bytes url
mark_bytes (added.Comment id) = 4 ∷ number_bytes w128 id

-- 1 strong, 2 em, 3 link, 4 and the sixteen bytes of a comment's name
unfoldable pub key_bytes : MarkKey → List ℕ
key_bytes key.Strong = 1 ∷ []
key_bytes key.Em = 2 ∷ []
key_bytes key.Link = 3 ∷ []
key_bytes (key.Comment id) = 4 ∷ number_bytes w128 id

-- 1 and the id of the character before which it stands, or 2 and the one after which
unfoldable pub anchor_bytes : Anchor → List ℕ
anchor_bytes (Before id) = 1 ∷ id_bytes id
anchor_bytes (After id) = 2 ∷ id_bytes id

-- 0 at the start of the text, else an anchor
unfoldable pub start_bytes : Start → List ℕ
start_bytes start.OfText = 0 ∷ []
start_bytes (start.From anchor) = anchor_bytes anchor

-- 3 at the end of the text, else an anchor
unfoldable pub end_bytes : End → List ℕ
end_bytes (end.To anchor) = anchor_bytes anchor
end_bytes end.OfText = 3 ∷ []

-- 1 insert, 2 remove, 3 add mark, 4 remove mark
abbrev pub kind_byte : Body → ℕ
kind_byte (Insert origin value) = 1
kind_byte (Remove target) = 2
kind_byte (AddMark mark start end) = 3
kind_byte (RemoveMark key start end) = 4

-- the sixteen bytes of a token, or nothing where there is none
unfoldable pub token_bytes : Option ℕ → List ℕ
token_bytes None = []
token_bytes (Some token) = number_bytes w128 token

-- a record with a token has the kind 16 above that of one without
abbrev pub tagged : Bool → ℕ → ℕ
tagged false kind = kind
tagged true kind = 16 + kind

-- what an operation does, by its kind
unfoldable pub content_bytes : Body → List ℕ
content_bytes (Insert origin value) = origin_bytes origin ++ number_bytes w32 value
content_bytes (Remove target) = id_bytes target
content_bytes (AddMark mark start end) = mark_bytes mark ++ (start_bytes start ++ end_bytes end)
content_bytes (RemoveMark key start end) = key_bytes key ++ (start_bytes start ++ end_bytes end)

-- the body of a record: its kind, the document, the id, the deps, the token and what it does
unfoldable pub body_bytes : Op → List ℕ
body_bytes op = tagged (is_some op.token) (kind_byte op.body)
    ∷ (number_bytes w32 op.doc ++ (id_bytes op.id ++ (deps_bytes op.deps ++ (token_bytes op.token ++ content_bytes op.body))))

-- four bytes for the length of the body, and the body
unfoldable pub spelled : Op → List ℕ
spelled op = number_bytes w32 (length (body_bytes op)) ++ body_bytes op

-- these bytes are the operation's spelling
abbrev pub Spells : List ℕ → Op → Type 0
Spells bytes op = bytes ≡ spelled op
