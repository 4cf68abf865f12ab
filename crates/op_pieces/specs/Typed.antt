-- What one insert makes.
use Rattle.std.specs.Prelude.{◌≡◌, ℕ, true, List, ◌∷◌}
use Rattle.op_model.specs.declared.op.Op.{Op}
use Rattle.op_pieces.specs.Pieces.{Run, ops_of, is_piece}
use Rattle.op_pieces.specs.Cutting.{value_of}

-- the operations are those of one piece, which types this text
pub record IsTyped (ops : List Op) (text : List ℕ) : Type 0 where
  pub run : Run
  pub piece : is_piece run ≡ true
  pub types : value_of run.first.body ∷ run.others ≡ text
  pub makes : ops_of run ≡ ops
