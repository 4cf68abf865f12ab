-- What a stream of bytes spells: the records of pieces, one after another.
use Rattle.std.specs.Prelude.{◌≡◌, ℕ, List, [], ◌∷◌, ◌++◌}
use Rattle.op_model.specs.declared.op.Op.{Op}
use Rattle.op_pieces.specs.Pieces.{Run, joined}
use Rattle.change_codec.specs.declared.format.Format.{Format}
use Rattle.piece_codec.specs.Fits.{IsWhole}
use Rattle.piece_codec.specs.Formats.{IsPieceOf}
use Rattle.piece_codec.specs.Spelling.{spelled_piece}

-- the records of the pieces, one after another
abbrev pub spelled_pieces : List Run → List ℕ
spelled_pieces [] = []
spelled_pieces (p ∷ ps) = spelled_piece p ++ spelled_pieces ps

-- each of them is whole and of the format
abbrev pub ArePiecesOf : Format → List Run → Type 0
ArePiecesOf format [] = Unit {0}
ArePiecesOf format (p ∷ ps) = IsWhole p × IsPieceOf format p × ArePiecesOf format ps

-- the bytes are the records of pieces of the format that make up the operations
pub record SpellsList (format : Format) (ops : List Op) (bytes : List ℕ) : Type 0 where
  pub pieces : List Run
  pub of_format : ArePiecesOf format pieces
  pub joined_so : joined pieces ≡ ops
  pub spelled_so : spelled_pieces pieces ≡ bytes
