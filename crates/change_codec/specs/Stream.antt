-- The records of a list of operations, one after another.
use Rattle.std.specs.Prelude.{◌≡◌, ℕ, List, [], ◌∷◌, ◌++◌}
use Rattle.op_model.specs.declared.op.Op.{Op}
use Rattle.change_codec.specs.declared.format.Format.{Format}
use Rattle.change_codec.specs.Fits.{IsOperation}
use Rattle.change_codec.specs.Formats.{AreOf}
use Rattle.change_codec.specs.Spelling.{spelled}

-- the spellings of the operations, one after another
abbrev pub spelled_all : List Op → List ℕ
spelled_all [] = []
spelled_all (op ∷ ops) = spelled op ++ spelled_all ops

-- each of them keeps the rules of its fields
abbrev pub AreOperations : List Op → Type 0
AreOperations [] = Unit {0}
AreOperations (op ∷ ops) = IsOperation op × AreOperations ops

-- no list of operations of the format is spelled so
abbrev pub IsNoStream : Format → List ℕ → Type 0
IsNoStream format bytes = (ops : List Op) → AreOperations ops → AreOf format ops → spelled_all ops ≡ bytes → ⊥
