-- Reading one frame from left to right, up to the first broken rule.
use Rattle.std.specs.Prelude.{ℕ, zero, suc, ◌+◌, Bool, true, false, List, [], ◌∷◌, length, take, drop, Option, Some, None, Result}
use Rattle.std.specs.Prelude.{Ok, Err, nat_lt, ◌==◌, if◌then◌else◌}
use Rattle.std.specs.Int.{w16, is_in_range}
use Rattle.fixed_numbers.specs.declared.limits.TheConstants.{MAX_TOLD}
use Rattle.fixed_numbers.specs.declared.sizes.TheConstants.{MAX_CONTENT}
use Rattle.op_pieces.specs.Pieces.{Run}
use Rattle.change_codec.specs.declared.codec_error.CodecError.{CodecError}
use Rattle.change_codec.specs.Reading.{number_at, replica_at, deps_at}
use Rattle.change_codec.specs.declared.format.Format.TheVariants.{Third}
use Rattle.change_codec.specs.Record.{length_at}
use Rattle.piece_codec.specs.Record.{taken_piece}
use Rattle.causal_sync.specs.declared.heard.Heard.{Heard}
use Rattle.causal_sync.specs.declared.heard.Heard.TheVariants.{Hello, Have, Ops, Bye}
use Rattle.causal_sync.specs.declared.link_error.LinkError.{LinkError}
use Rattle.causal_sync.specs.declared.link_error.LinkError.TheVariants.{BadFrame, BadHello, Record}

-- a step, and then what follows from its value; a fault ends the reading
infixl 10 ◌>>=◌
abbrev pub ◌>>=◌ : {A B : Type 0} → Result A LinkError → (A → Result B LinkError) → Result B LinkError
(Ok x) >>= f = f x
(Err e) >>= f = Err e

-- a field of the codec's form, whatever its fault is called here
abbrev pub or_fault : {A : Type 0} → LinkError → Result A CodecError → Result A LinkError
or_fault fault (Ok x) = Ok x
or_fault fault (Err e) = Err fault

-- a value with nothing behind it
abbrev pub ended : {A : Type 0} → LinkError → A × List ℕ → Result A LinkError
ended fault x = if length x.1 == 0 then Ok x.0 else Err fault

-- this byte
unfoldable pub tag_at : ℕ → LinkError → List ℕ → Result (List ℕ) LinkError
tag_at tag fault [] = Err fault
tag_at tag fault (b ∷ rest) = if b == tag then Ok rest else Err fault

-- type 1 and format 3, and the bytes behind them
unfoldable pub greeting_at : List ℕ → Result (List ℕ) LinkError
greeting_at content = do
  behind ← tag_at 1 BadHello content
  format ← or_fault BadHello (number_at w16 behind)
  if format.0 == 3 then Ok format.1 else Err BadHello

-- a replica that isn't nil, and nothing behind it
unfoldable pub name_at : List ℕ → Result ℕ LinkError
name_at bytes = do
  replica ← or_fault BadHello (replica_at bytes)
  ended BadHello replica

-- the name of another replica
unfoldable pub other_at : ℕ → List ℕ → Result Heard LinkError
other_at own bytes = do
  replica ← name_at bytes
  if replica == own then Err BadHello else Ok (Hello replica)

-- a HELLO of format 3 of another replica; whatever else is there is a bad hello
unfoldable pub hello_at : ℕ → List ℕ → Result Heard LinkError
hello_at own content = greeting_at content >>= other_at own

-- a clock, and nothing behind it
unfoldable pub have_at : List ℕ → Result Heard LinkError
have_at payload = do
  found ← or_fault BadFrame (deps_at payload)
  clock ← ended BadFrame found
  Ok (Have clock)

-- a whole record, and the bytes behind it; one that isn't whole is a bad frame
abbrev pub behind : List ℕ → Result (Option (Run × ℕ)) CodecError → Result (Run × List ℕ) LinkError
behind bytes (Ok (Some found)) = Ok (found.0, drop found.1 bytes)
behind bytes (Ok None) = Err BadFrame
behind bytes (Err e) = Err (Record e)

-- the record of a piece at the front
unfoldable pub record_at : List ℕ → Result (Run × List ℕ) LinkError
record_at bytes = behind bytes (taken_piece Third bytes)

-- this many records, and nothing behind them
unfoldable pub records_at : ℕ → List ℕ → Result (List Run) LinkError
records_at zero bytes = if length bytes == 0 then Ok [] else Err BadFrame
records_at (suc n) bytes = do
  first ← record_at bytes
  others ← records_at n first.1
  Ok (first.0 ∷ others)

-- the number of records, from 1 to MAX_TOLD
unfoldable pub count_at : List ℕ → Result (ℕ × List ℕ) LinkError
count_at payload = do
  count ← or_fault BadFrame (number_at w16 payload)
  if is_in_range 1 MAX_TOLD count.0 then Ok count else Err BadFrame

-- the number of records, and each of them
unfoldable pub ops_at : List ℕ → Result Heard LinkError
ops_at payload = do
  count ← count_at payload
  pieces ← records_at count.0 count.1
  Ok (Ops pieces)

-- a frame behind the first: its type, and what it says
unfoldable pub later_at : List ℕ → Result Heard LinkError
later_at [] = Err BadFrame
later_at (zero ∷ payload) = Err BadFrame
later_at (suc zero ∷ payload) = Err BadHello
later_at (suc (suc zero) ∷ payload) = have_at payload
later_at (suc (suc (suc zero)) ∷ payload) = ops_at payload
later_at (suc (suc (suc (suc zero))) ∷ payload) = if length payload == 0 then Ok Bye else Err BadFrame
later_at (suc (suc (suc (suc (suc b)))) ∷ payload) = Err BadFrame

-- what the content of a frame says to a replica, as its first frame or as a later one
abbrev pub content_at : ℕ → Bool → List ℕ → Result Heard LinkError
content_at own true content = hello_at own content
content_at own false content = later_at content

-- with the length of the content, and the bytes after it: the frame and how many bytes it takes, or none yet
unfoldable pub framed : ℕ → Bool → ℕ → List ℕ → Result (Option (Heard × ℕ)) LinkError
framed own first len rest =
    if is_in_range 1 MAX_CONTENT len then (if nat_lt (length rest) len then Ok None else (content_at own first (take len rest) >>= λ frame. Ok (Some (frame, 4 + len))))
    else Err BadFrame

-- what stands at the front: nothing before its length is there
unfoldable pub frame_at : ℕ → Bool → List ℕ → Result (Option (Heard × ℕ)) LinkError
frame_at own first bytes = if nat_lt (length bytes) 4 then Ok None else framed own first (length_at bytes) (drop 4 bytes)
