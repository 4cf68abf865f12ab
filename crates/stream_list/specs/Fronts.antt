-- The piece at the front of a stream.
use Rattle.std.specs.Prelude.{◌≡◌, ℕ, ◌*◌, ◌≤◌, List, ◌++◌, length}
use Rattle.op_model.specs.declared.op.Op.{Op}
use Rattle.op_model.specs.Records.{stream_length}
use Rattle.op_pieces.specs.Pieces.{Run, ops_of}
use Rattle.change_codec.specs.declared.format.Format.{Format}
use Rattle.piece_codec.specs.Formats.{IsPieceOf}
use Rattle.piece_codec.specs.Record.{BeginsWithPiece}
use Rattle.stream_list.specs.declared.front.Front.{Front}

-- the most that the records of a piece's operations take, one by one
abbrev pub most_records : ℕ
most_records = 125696

-- the bytes begin with a piece of the format, which takes so many bytes and stands for so much
pub record BeginsWithFront (format : Format) (bytes : List ℕ) (front : Front) : Type 0 where
  pub piece : Run
  pub of_format : IsPieceOf format piece
  pub begins : BeginsWithPiece bytes piece front.len
  pub counted : front.count ≡ length (ops_of piece)
  pub measured : front.records ≡ stream_length (ops_of piece)
  pub within : front.records ≤ most_records * front.len

-- the bytes don't begin with a piece of the format
abbrev pub BeginsWithNone : Format → List ℕ → Type 0
BeginsWithNone format bytes = (p : Run) (n : ℕ) → IsPieceOf format p → BeginsWithPiece bytes p n → ⊥

-- and its operations are put behind a list
pub record PutsFront (format : Format) (bytes : List ℕ) (front : Front) (before after : List Op) : Type 0 where
  pub begins : BeginsWithFront format bytes front
  pub put : after ≡ before ++ ops_of begins.piece
