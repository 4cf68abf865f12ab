-- Reading the body of a record from left to right, up to the first broken rule. Each field is a value and the bytes
-- after it.
use Rattle.std.specs.Prelude.{◌≡◌, ℕ, zero, suc, List, [], ◌∷◌, length, take, drop, Option, Some, None, Result, Ok, Err, ◌-◌, Bool, true, false}
use Rattle.std.specs.Prelude.{◌&&◌, nat_lt, ◌==◌, if◌then◌else◌}
use Rattle.std.specs.Int.{Width, w16, w32, w64, w128, byte_len, from_be_bytes, is_in_range}
use lib.Utf8.{scalar}
use Rattle.std.specs.Str.{is_utf8}
use Rattle.fixed_numbers.specs.declared.limits.TheConstants.{MAX_COUNT, MAX_COUNTER, MAX_REPLICAS, MAX_URL_LENGTH}
use Rattle.op_ids.specs.Id.{Id}
use Rattle.op_model.specs.declared.op.Op.{Op}
use Rattle.op_model.specs.declared.op.Body.{Body}
use Rattle.op_model.specs.declared.op.Body.TheVariants.{Insert, Remove, AddMark, RemoveMark}
use Rattle.op_model.specs.declared.anchor.Anchor.TheVariants.{Before, After}
use Rattle.op_model.specs.declared.anchor.Start.{Start}
use Rattle.op_model.specs.declared.anchor.Start.TheVariants as start
use Rattle.op_model.specs.declared.anchor.End.{End}
use Rattle.op_model.specs.declared.anchor.End.TheVariants as end
use Rattle.op_model.specs.declared.mark.Mark.{Mark}
use Rattle.op_model.specs.declared.mark.Mark.TheVariants as added
use Rattle.op_model.specs.declared.mark.MarkKey.{MarkKey}
use Rattle.op_model.specs.declared.mark.MarkKey.TheVariants as key
use Rattle.change_codec.specs.declared.codec_error.CodecError.{CodecError}
use Rattle.change_codec.specs.declared.codec_error.CodecError.TheVariants as fault
use Rattle.change_codec.specs.declared.format.Format.{Format}
use Rattle.change_codec.specs.declared.format.Format.TheVariants.{Third}
use Rattle.change_codec.specs.declared.head.Head.{Head}
use Rattle.change_codec.specs.declared.content.Kind.{Kind}
use Rattle.change_codec.specs.declared.content.Kind.TheVariants as kind
use Rattle.change_codec.specs.Formats.{has_tokens}

-- a step, and then what follows from its value; a fault ends the reading
infixl 10 ◌>>=◌
abbrev pub ◌>>=◌ : {A B : Type 0} → Result A CodecError → (A → Result B CodecError) → Result B CodecError
(Ok x) >>= f = f x
(Err e) >>= f = Err e

-- what a function returned, seen by a view, is what is read
abbrev pub Reads : {X Y : Type 0} → (X → Y) → Result X CodecError → Result Y CodecError → Type 0
Reads view (Ok x) read = read ≡ Ok (view x)
Reads view (Err e) read = read ≡ Err e

-- the value of a field without the bytes after it
abbrev pub only_value : {A : Type 0} → Result (A × List ℕ) CodecError → Result A CodecError
only_value (Ok x) = Ok x.0
only_value (Err e) = Err e

-- the bytes after a field
abbrev pub only_rest : {A : Type 0} → Result (A × List ℕ) CodecError → Result (List ℕ) CodecError
only_rest (Ok x) = Ok x.1
only_rest (Err e) = Err e

-- one byte
unfoldable pub byte_at : List ℕ → Result (ℕ × List ℕ) CodecError
byte_at [] = Err fault.Length
byte_at (b ∷ rest) = Ok (b, rest)

-- a number in the bytes of its width, the highest first
unfoldable pub number_at : Width → List ℕ → Result (ℕ × List ℕ) CodecError
number_at w bytes = if nat_lt (length bytes) (byte_len w) then Err fault.Length else Ok (from_be_bytes w (take (byte_len w) bytes), drop (byte_len w) bytes)

-- this many bytes
unfoldable pub bytes_at : ℕ → List ℕ → Result (List ℕ × List ℕ) CodecError
bytes_at n bytes = if nat_lt (length bytes) n then Err fault.Length else Ok (take n bytes, drop n bytes)

-- a number that was read, where it is in a range
abbrev pub within : ℕ → ℕ → ℕ × List ℕ → Result (ℕ × List ℕ) CodecError
within low high n = if is_in_range low high n.0 then Ok n else Err fault.Number

-- a counter, from 1 to 2^48 - 1
unfoldable pub counter_at : List ℕ → Result (ℕ × List ℕ) CodecError
counter_at bytes = number_at w64 bytes >>= within 1 MAX_COUNTER

-- a replica, which isn't nil
unfoldable pub replica_at : List ℕ → Result (ℕ × List ℕ) CodecError
replica_at bytes = number_at w128 bytes >>= λ n. if n.0 == 0 then Err fault.Number else Ok n

-- a counter, and then a replica
unfoldable pub id_at : List ℕ → Result (Id × List ℕ) CodecError
id_at bytes = do
  counter ← counter_at bytes
  replica ← replica_at counter.1
  Ok (record { counter = counter.0; replica = replica.0 }, replica.1)

-- a replica above another one, and its count, from 1 to 2^24
unfoldable pub entry_at : ℕ → List ℕ → Result ((ℕ × ℕ) × List ℕ) CodecError
entry_at low bytes = do
  replica ← replica_at bytes
  above ← (if nat_lt low replica.0 then Ok replica else Err fault.Order)
  count ← (number_at w64 above.1 >>= within 1 MAX_COUNT)
  Ok ((above.0, count.0), count.1)

-- this many entries, in strictly rising order of replica
unfoldable pub entries_at : ℕ → ℕ → List ℕ → Result (List (ℕ × ℕ) × List ℕ) CodecError
entries_at zero low bytes = Ok ([], bytes)
entries_at (suc n) low bytes = do
  first ← entry_at low bytes
  others ← entries_at n first.0.0 first.1
  Ok (first.0 ∷ others.0, others.1)

-- the number of deps, at most 16
unfoldable pub count_at : List ℕ → Result (ℕ × List ℕ) CodecError
count_at bytes = byte_at bytes >>= within 0 MAX_REPLICAS

-- the number of deps, and each of them
unfoldable pub deps_at : List ℕ → Result (List (ℕ × ℕ) × List ℕ) CodecError
deps_at bytes = do
  count ← count_at bytes
  entries_at count.0 0 count.1

-- 0 for no origin, or 1 and its id
unfoldable pub origin_at : List ℕ → Result (Option Id × List ℕ) CodecError
origin_at [] = Err fault.Length
origin_at (zero ∷ rest) = Ok (None, rest)
origin_at (suc zero ∷ rest) = do
  id ← id_at rest
  Ok (Some id.0, id.1)
origin_at (suc (suc b) ∷ rest) = Err fault.Kind

-- a Unicode scalar value
unfoldable pub scalar_at : List ℕ → Result (ℕ × List ℕ) CodecError
scalar_at bytes = number_at w32 bytes >>= λ n. if scalar n.0 then Ok n else Err fault.Scalar

-- the length of a URL, from 1 to 1,024, and that many bytes of UTF-8
unfoldable pub url_at : List ℕ → Result (List ℕ × List ℕ) CodecError
url_at bytes = do
  len ← (number_at w16 bytes >>= within 1 MAX_URL_LENGTH)
  text ← bytes_at len.0 len.1
  if is_utf8 text.0 then Ok text else Err fault.Utf8

-- the kind of a mark, and the URL of a link or the name of a comment
unfoldable pub mark_at : List ℕ → Result (Mark × List ℕ) CodecError
mark_at [] = Err fault.Length
mark_at (zero ∷ rest) = Err fault.Kind
mark_at (suc zero ∷ rest) = Ok (added.Strong, rest)
mark_at (suc (suc zero) ∷ rest) = Ok (added.Em, rest)
mark_at (suc (suc (suc zero)) ∷ rest) = do
  url ← url_at rest
  Ok (added.Link url.0, url.1)
mark_at (suc (suc (suc (suc zero))) ∷ rest) = do
  id ← number_at w128 rest
  Ok (added.Comment id.0, id.1)
mark_at (suc (suc (suc (suc (suc b)))) ∷ rest) = Err fault.Kind

-- the kind of a mark, and the name of a comment
unfoldable pub key_at : List ℕ → Result (MarkKey × List ℕ) CodecError
key_at [] = Err fault.Length
key_at (zero ∷ rest) = Err fault.Kind
key_at (suc zero ∷ rest) = Ok (key.Strong, rest)
key_at (suc (suc zero) ∷ rest) = Ok (key.Em, rest)
key_at (suc (suc (suc zero)) ∷ rest) = Ok (key.Link, rest)
key_at (suc (suc (suc (suc zero))) ∷ rest) = do
  id ← number_at w128 rest
  Ok (key.Comment id.0, id.1)
key_at (suc (suc (suc (suc (suc b)))) ∷ rest) = Err fault.Kind

-- 0 for the start of the text, or 1 or 2 and the id of the character
unfoldable pub start_at : List ℕ → Result (Start × List ℕ) CodecError
start_at [] = Err fault.Length
start_at (zero ∷ rest) = Ok (start.OfText, rest)
start_at (suc zero ∷ rest) = do
  id ← id_at rest
  Ok (start.From (Before id.0), id.1)
start_at (suc (suc zero) ∷ rest) = do
  id ← id_at rest
  Ok (start.From (After id.0), id.1)
start_at (suc (suc (suc b)) ∷ rest) = Err fault.Anchor

-- 1 or 2 and the id of the character, or 3 for the end of the text
unfoldable pub end_at : List ℕ → Result (End × List ℕ) CodecError
end_at [] = Err fault.Length
end_at (zero ∷ rest) = Err fault.Anchor
end_at (suc zero ∷ rest) = do
  id ← id_at rest
  Ok (end.To (Before id.0), id.1)
end_at (suc (suc zero) ∷ rest) = do
  id ← id_at rest
  Ok (end.To (After id.0), id.1)
end_at (suc (suc (suc zero)) ∷ rest) = Ok (end.OfText, rest)
end_at (suc (suc (suc (suc b))) ∷ rest) = Err fault.Anchor

-- a start, and then an end
unfoldable pub span_at : List ℕ → Result ((Start × End) × List ℕ) CodecError
span_at bytes = do
  from ← start_at bytes
  to ← end_at from.1
  Ok ((from.0, to.0), to.1)

-- 1 insert, 2 remove, 3 add mark, 4 remove mark
unfoldable pub kind_named : ℕ → Result Kind CodecError
kind_named zero = Err fault.Kind
kind_named (suc zero) = Ok kind.Insert
kind_named (suc (suc zero)) = Ok kind.Remove
kind_named (suc (suc (suc zero))) = Ok kind.AddMark
kind_named (suc (suc (suc (suc zero)))) = Ok kind.RemoveMark
kind_named (suc (suc (suc (suc (suc b))))) = Err fault.Kind

-- the kind of a record, and whether it has a token: where a format has tokens, the kinds above 16 are those 16 below with one
unfoldable pub kind_at : Format → List ℕ → Result ((Kind × Bool) × List ℕ) CodecError
kind_at format [] = Err fault.Length
kind_at format (b ∷ rest) =
    if nat_lt 16 b && has_tokens format then (kind_named (b - 16) >>= λ k. Ok ((k, true), rest))
    else (kind_named b >>= λ k. Ok ((k, false), rest))

-- the token of a record that has one, which isn't nil
unfoldable pub token_at : Bool → List ℕ → Result (Option ℕ × List ℕ) CodecError
token_at false bytes = Ok (None, bytes)
token_at true bytes = do
  token ← replica_at bytes
  Ok (Some token.0, token.1)

-- what an operation of a kind does
unfoldable pub content_at : Kind → List ℕ → Result (Body × List ℕ) CodecError
content_at kind.Insert bytes = do
  origin ← origin_at bytes
  value ← scalar_at origin.1
  Ok (Insert origin.0 value.0, value.1)
content_at kind.Remove bytes = do
  target ← id_at bytes
  Ok (Remove target.0, target.1)
content_at kind.AddMark bytes = do
  mark ← mark_at bytes
  span ← span_at mark.1
  Ok (AddMark mark.0 span.0.0 span.0.1, span.1)
content_at kind.RemoveMark bytes = do
  mark ← key_at bytes
  span ← span_at mark.1
  Ok (RemoveMark mark.0 span.0.0 span.0.1, span.1)

-- what an operation of a kind does, and nothing behind it
unfoldable pub body_at : Kind → List ℕ → Result Body CodecError
body_at kind bytes = content_at kind bytes >>= λ content. if length content.1 == 0 then Ok content.0 else Err fault.Length

-- the kind of a record, its document and its id
unfoldable pub head_at : Format → List ℕ → Result (Head × List ℕ) CodecError
head_at format bytes = do
  kind ← kind_at format bytes
  doc ← number_at w32 kind.1
  id ← id_at doc.1
  Ok (record { kind = kind.0.0; has_token = kind.0.1; doc = doc.0; id = id.0 }, id.1)

-- the token, if there is one, and what an operation of a kind does
abbrev pub rest_at : Bool → Kind → List ℕ → Result (Option ℕ × Body) CodecError
rest_at has_token kind bytes = do
  token ← token_at has_token bytes
  body ← body_at kind token.1
  Ok (token.0, body)

-- the operation with a head and deps, and what was read behind them
abbrev pub with_head : Head → List (ℕ × ℕ) → Result (Option ℕ × Body) CodecError → Result Op CodecError
with_head head deps rest = rest >>= λ x. Ok (record { id = head.id; doc = head.doc; token = x.0; deps = deps; body = x.1 })

-- the operation that a whole body gives: its head, its deps, its token and what it does
unfoldable pub op_at : Format → List ℕ → Result Op CodecError
op_at format bytes = do
  head ← head_at format bytes
  deps ← deps_at head.1
  with_head head.0 deps.0 (rest_at head.0.has_token head.0.kind deps.1)

-- the token that stands in a whole body, if it has one
unfoldable pub named_at : List ℕ → Result (Option ℕ) CodecError
named_at bytes = do
  head ← head_at Third bytes
  deps ← deps_at head.1
  token ← token_at head.0.has_token deps.1
  Ok token.0

-- the origin of what an operation of a kind does, if it has one
abbrev pub origin_for : Kind → List ℕ → Result (Option Id) CodecError
origin_for kind.Insert bytes = only_value (origin_at bytes)
origin_for kind.Remove bytes = Ok None
origin_for kind.AddMark bytes = Ok None
origin_for kind.RemoveMark bytes = Ok None

-- the origin that stands in a whole body, if it has one
unfoldable pub behind_at : List ℕ → Result (Option Id) CodecError
behind_at bytes = do
  head ← head_at Third bytes
  deps ← deps_at head.1
  token ← token_at head.0.has_token deps.1
  origin_for head.0.kind token.1
