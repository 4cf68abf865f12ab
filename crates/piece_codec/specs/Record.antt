-- A whole piece at the front of a stream.
use Rattle.std.specs.Prelude.{◌≡◌, ℕ, ◌≤◌, Bool, List, length, take, drop, slice_index, Option, Some, None, Result, Ok}
use Rattle.op_model.specs.declared.op.Op.{Op}
use Rattle.op_pieces.specs.Pieces.{Run, single}
use Rattle.change_codec.specs.declared.codec_error.CodecError.{CodecError}
use Rattle.change_codec.specs.declared.format.Format.{Format}
use Rattle.change_codec.specs.Reading.{◌>>=◌}
use Rattle.change_codec.specs.Record.{framed, taken, fault_of}
use Rattle.piece_codec.specs.Fits.{IsWhole}
use Rattle.piece_codec.specs.Formats.{IsPieceOf, run_named}
use Rattle.piece_codec.specs.Reading.{run_at}
use Rattle.piece_codec.specs.Spelling.{spelled_piece}

-- the run that a whole body gives, behind its kind
abbrev pub run_body_at : Bool → List ℕ → Result Run CodecError
run_body_at has_token body = run_at has_token (drop 1 body)

-- an operation that was found is a piece
abbrev pub as_piece : Option (Op × ℕ) → Option (Run × ℕ)
as_piece None = None
as_piece (Some found) = Some (single found.0, found.1)

-- what stands at the front, once its kind is known: a run with a token or without one, or an operation
abbrev pub taken_as : Option Bool → Format → List ℕ → Result (Option (Run × ℕ)) CodecError
taken_as (Some has_token) format bytes = framed (run_body_at has_token) format bytes
taken_as None format bytes = taken format bytes >>= λ found. Ok (as_piece found)

-- what stands at the front: a run where the byte behind the length says so
unfoldable pub taken_piece : Format → List ℕ → Result (Option (Run × ℕ)) CodecError
taken_piece format bytes = taken_as (run_named format (slice_index bytes 4)) format bytes

-- the first broken rule of the record at the front, in the order of its fields
unfoldable pub first_fault : Format → List ℕ → Option CodecError
first_fault format bytes = fault_of (taken_piece format bytes)

-- the first n bytes spell the piece
pub record BeginsWithPiece (bytes : List ℕ) (p : Run) (n : ℕ) : Type 0 where
  pub whole : n ≤ length bytes
  pub spelled_so : take n bytes ≡ spelled_piece p
  pub fits : IsWhole p

-- the bytes begin with some piece of the format
abbrev pub BeginsWithOneOf : Format → List ℕ → Type 0
BeginsWithOneOf format bytes = (p : Run) × (n : ℕ) × IsPieceOf format p × BeginsWithPiece bytes p n
