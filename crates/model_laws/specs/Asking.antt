-- What an edit asks for.
use Rattle.std.specs.Prelude.{◌≡◌, true, length, List}
use Rattle.op_model.specs.declared.op.Op.{Op}
use Rattle.op_model.specs.declared.edit.Edit.{Edit}
use Rattle.op_model.specs.Text.{visible, rev}
use Rattle.op_model.specs.Made.{is_at_rev, is_inside, is_small}

-- the edit knows the document's number of operations, lies within its text, and is small
pub record IsAskedRight (ops : List Op) (edit : Edit) : Type 0 where
  pub current : is_at_rev (rev ops edit.doc) edit.rev ≡ true
  pub inside : is_inside (length (visible ops edit.doc)) edit.change ≡ true
  pub small : is_small edit.change ≡ true
