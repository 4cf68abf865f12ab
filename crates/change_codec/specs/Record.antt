-- A whole record at the front of a stream.
use Rattle.std.specs.Prelude.{◌≡◌, ◌⊎◌, ℕ, ◌+◌, ◌<◌, ◌≤◌, List, length, take, drop, Option, Some, None, Result, Ok, Err, nat_lt, if◌then◌else◌}
use Rattle.std.specs.Borrow.{Bor}
use Rattle.std.specs.Int.{w32, from_be_bytes, is_in_range}
use Rattle.fixed_numbers.specs.declared.sizes.TheConstants.{MIN_RECORD}
use Rattle.op_model.specs.declared.op.Op.{Op}
use Rattle.change_codec.specs.declared.codec_error.CodecError.{CodecError}
use Rattle.change_codec.specs.declared.codec_error.CodecError.TheVariants.{Memory, Length}
use Rattle.change_codec.specs.declared.format.Format.{Format}
use Rattle.change_codec.specs.Formats.{longest, IsOf}
use Rattle.change_codec.specs.Spelling.{Spells}
use Rattle.change_codec.specs.Fits.{IsOperation}
use Rattle.change_codec.specs.Reading.{◌>>=◌, op_at}

-- with the length of the body, and the bytes after it: what is read from the body and how many bytes the record takes, or none yet
abbrev pub framed_at : {A : Type 0} → (List ℕ → Result A CodecError) → Format → ℕ → List ℕ → Result (Option (A × ℕ)) CodecError
framed_at read format len rest =
    if is_in_range MIN_RECORD (longest format) len then (if nat_lt (length rest) len then Ok None else (read (take len rest) >>= λ x. Ok (Some (x, 4 + len))))
    else Err Length

-- the length of the body, as the first four bytes give it
abbrev pub length_at : List ℕ → ℕ
length_at bytes = from_be_bytes w32 (take 4 bytes)

-- what is read from the body of the record at the front: nothing before its length is there
abbrev pub framed : {A : Type 0} → (List ℕ → Result A CodecError) → Format → List ℕ → Result (Option (A × ℕ)) CodecError
framed read format bytes = if nat_lt (length bytes) 4 then Ok None else framed_at read format (length_at bytes) (drop 4 bytes)

-- a body as it is
abbrev pub whole_body : List ℕ → Result (List ℕ) CodecError
whole_body body = Ok body

-- the body that a function found, and how many bytes its record takes
abbrev pub found_body : Option (Bor (List ℕ) × ℕ) → Option (List ℕ × ℕ)
found_body None = None
found_body (Some found) = Some (found.0.now, found.1)

-- the operation at the front, and how many bytes its record takes
unfoldable pub taken : Format → List ℕ → Result (Option (Op × ℕ)) CodecError
taken format bytes = framed (op_at format) format bytes

-- the fault of what is read, if there is one
abbrev pub fault_of : {A : Type 0} → Result A CodecError → Option CodecError
fault_of (Ok x) = None
fault_of (Err e) = Some e

-- the first broken rule of the record at the front, in the order of its fields
unfoldable pub first_fault : Format → List ℕ → Option CodecError
first_fault format bytes = fault_of (taken format bytes)

-- no whole record yet: its length isn't there, or is in its range and reaches past the end
abbrev pub IsPartial : Format → List ℕ → Type 0
IsPartial format bytes = (length bytes < 4) ⊎ ((MIN_RECORD ≤ length_at bytes) × (length_at bytes ≤ longest format) × (length bytes < 4 + length_at bytes))

-- the first n bytes spell the operation
pub record BeginsWithOp (bytes : List ℕ) (op : Op) (n : ℕ) : Type 0 where
  pub whole : n ≤ length bytes
  pub spelled_so : Spells (take n bytes) op
  pub fits : IsOperation op

-- the bytes begin with some operation
abbrev pub BeginsWithSome : List ℕ → Type 0
BeginsWithSome bytes = (op : Op) × (n : ℕ) × BeginsWithOp bytes op n

-- the bytes begin with some operation of the format
abbrev pub BeginsWithOneOf : Format → List ℕ → Type 0
BeginsWithOneOf format bytes = (op : Op) × (n : ℕ) × IsOf format op × BeginsWithOp bytes op n

-- what a function returned is what is read; out of memory may stand in place of what there is
abbrev pub Answers : {A : Type 0} → Result (Option A) CodecError → Result (Option A) CodecError → Type 0
Answers (Ok found) read = read ≡ Ok found
Answers {A} (Err e) read = (read ≡ Err e) ⊎ ((e ≡ Memory) × ((found : A) × (read ≡ Ok (Some found))))

-- how many bytes the operation takes that was found, if one was
abbrev pub found_length : Result (Option (Op × ℕ)) CodecError → Option ℕ
found_length (Ok (Some found)) = Some found.1
found_length (Ok None) = None
found_length (Err e) = None
