-- How a list of operations is held: by their records, one after another, and where each one ends.
use Rattle.std.specs.Prelude.{◌≡◌, ℕ, zero, suc, ◌+◌, ◌<◌, ◌^◌, List, [], ◌∷◌, length, drop, Option, Some, None, Result, Ok, Err}
use Rattle.op_model.specs.declared.op.Op.{Op}
use Rattle.op_model.specs.Records.{record_length}
use Rattle.change_codec.specs.declared.codec_error.CodecError.{CodecError}
use Rattle.change_codec.specs.declared.format.Format.TheVariants.{Third}
use Rattle.change_codec.specs.Record.{taken, BeginsWithOp}
use Rattle.change_codec.specs.Stream.{spelled_all, AreOperations}

-- the operation that was found at the front of bytes, and then those behind it
abbrev pub found_then : (List ℕ → List Op) → List ℕ → Result (Option (Op × ℕ)) CodecError → List Op
found_then behind bytes (Ok (Some found)) = found.0 ∷ behind (drop found.1 bytes)
found_then behind bytes (Ok None) = []
found_then behind bytes (Err e) = []

-- the first n operations that are read from bytes, with tokens where they have some
unfoldable pub ops_in : ℕ → List ℕ → List Op
ops_in zero bytes = []
ops_in (suc n) bytes = found_then (ops_in n) bytes (taken Third bytes)

-- the operations of records, as many as there are ends
abbrev pub held : List ℕ → List ℕ → List Op
held records ends = ops_in (length ends) records

-- where each record ends, if the first one starts there
abbrev pub ends_of : ℕ → List Op → List ℕ
ends_of start [] = []
ends_of start (op ∷ ops) = (start + record_length op) ∷ ends_of (start + record_length op) ops

-- these are the records of the list, and where each of them ends
pub record HoldsRecords (records ends : List ℕ) (ops : List Op) : Type 0 where
  pub spelled_so : spelled_all ops ≡ records
  pub fits : AreOperations ops
  pub ends_so : ends ≡ ends_of 0 ops
  pub within : length records < 2 ^ 32

-- the records are those of the operations that are read from them
abbrev pub IsHeld : List ℕ → List ℕ → Type 0
IsHeld records ends = HoldsRecords records ends (held records ends)

-- the bytes are the record of the operation, and nothing behind it
abbrev pub IsRecord : List ℕ → Op → Type 0
IsRecord bytes op = BeginsWithOp bytes op (length bytes)
