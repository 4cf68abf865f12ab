-- Which pieces have a spelling: those of the types of pieces and operations.
use Rattle.std.specs.Prelude.{◌≡◌, ℕ, true, List, [], ◌∷◌}
use Rattle.std.specs.Char.{IsScalar}
use Rattle.op_pieces.specs.Pieces.{Run, is_piece}
use Rattle.change_codec.specs.Fits.{IsOperation}

-- each is a Unicode scalar value
abbrev pub AreScalars : List ℕ → Type 0
AreScalars [] = Unit {0}
AreScalars (v ∷ vs) = IsScalar v × AreScalars vs

-- one operation or a run, whose first operation keeps the rules of its fields, and whose characters are some
pub record IsWhole (p : Run) : Type 0 where
  pub first : IsOperation p.first
  pub others : AreScalars p.others
  pub piece : is_piece p ≡ true

-- each of them is whole
abbrev pub AreWhole : List Run → Type 0
AreWhole [] = Unit {0}
AreWhole (p ∷ ps) = IsWhole p × AreWhole ps
