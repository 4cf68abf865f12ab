-- Reading the body of a run's record from left to right, up to the first broken rule. Each field is a value and the
-- bytes after it.
use Rattle.std.specs.Prelude.{◌≡◌, ℕ, zero, suc, ◌-◌, List, [], ◌∷◌, length, Result, Ok, Err, IsOk, Bool, ◌&&◌, ◌==◌, nat_le, if◌then◌else◌}
use Rattle.std.specs.Int.{w16, w32, w64}
use Rattle.op_model.specs.declared.op.Op.{Op}
use Rattle.op_model.specs.declared.op.Body.TheVariants.{Insert}
use Rattle.op_pieces.specs.Pieces.{Run, has_room_behind}
use Rattle.change_codec.specs.declared.codec_error.CodecError.{CodecError}
use Rattle.change_codec.specs.declared.codec_error.CodecError.TheVariants as fault
use Rattle.change_codec.specs.Reading.{◌>>=◌, number_at, replica_at, id_at, deps_at, token_at, origin_at, scalar_at}
use Rattle.piece_codec.specs.declared.fields.RunHead.{RunHead}
use Rattle.piece_codec.specs.declared.fields.RunTail.{RunTail}

-- the document, and the id of the first operation
unfoldable pub run_head_at : List ℕ → Result (RunHead × List ℕ) CodecError
run_head_at bytes = do
  doc ← number_at w32 bytes
  id ← id_at doc.1
  Ok (record { doc = doc.0; id = id.0 }, id.1)

-- behind the deps: the token, if there is one, the origin and the number of characters
unfoldable pub run_tail_at : Bool → List ℕ → Result (RunTail × List ℕ) CodecError
run_tail_at has_token bytes = do
  token ← token_at has_token bytes
  origin ← origin_at token.1
  count ← number_at w16 origin.1
  Ok (record { token = token.0; origin = origin.0; count = count.0 }, count.1)

-- the first operation of a run, once its character is known
abbrev pub first_of : RunHead → List (ℕ × ℕ) → RunTail → ℕ → Op
first_of head deps tail value = record { id = head.id; doc = head.doc; token = tail.token; deps = deps; body = Insert tail.origin value }

-- a replica and its count, whatever stands before them
unfoldable pub pair_at : List ℕ → Result ((ℕ × ℕ) × List ℕ) CodecError
pair_at bytes = do
  replica ← replica_at bytes
  count ← number_at w64 replica.1
  Ok ((replica.0, count.0), count.1)

-- at least 2, and for those behind the first operation there is room
abbrev pub is_count : Op → ℕ → Bool
is_count op n = nat_le 2 n && has_room_behind op (n - 1)

-- this many scalar values
unfoldable pub scalars_at : ℕ → List ℕ → Result (List ℕ × List ℕ) CodecError
scalars_at zero bytes = Ok ([], bytes)
scalars_at (suc n) bytes = do
  first ← scalar_at bytes
  others ← scalars_at n first.1
  Ok (first.0 ∷ others.0, others.1)

-- a first scalar value and this many others, and nothing behind them
unfoldable pub text_at : ℕ → List ℕ → Result (ℕ × List ℕ) CodecError
text_at others bytes = do
  first ← scalar_at bytes
  rest ← scalars_at others first.1
  if length rest.1 == 0 then Ok (first.0, rest.0) else Err fault.Length

-- the run whose first operation has its character still to come, with as many characters as there is room for
abbrev pub counted_at : (ℕ → Op) → ℕ → List ℕ → Result Run CodecError
counted_at first count bytes =
    if is_count (first 0) count then (text_at (count - 1) bytes >>= λ text. Ok (record { first = first text.0; others = text.1 })) else Err fault.Number

-- the run that the fields behind its kind give
unfoldable pub run_at : Bool → List ℕ → Result Run CodecError
run_at has_token bytes = do
  head ← run_head_at bytes
  deps ← deps_at head.1
  tail ← run_tail_at has_token deps.1
  counted_at (first_of head.0 deps.0 tail.0) tail.0.count tail.1

-- what a test returned: nothing is wrong, or the fault that is read
abbrev pub Tests : {X Y : Type 0} → Result X CodecError → Result Y CodecError → Type 0
Tests (Ok x) read = IsOk read
Tests (Err e) read = read ≡ Err e
