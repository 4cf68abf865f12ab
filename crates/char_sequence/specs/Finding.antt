-- Used by private functions and proofs alone.
--
-- Cells by their ids.
use Rattle.std.specs.Prelude.{Bool, false, Option, Some, None}
use Rattle.op_ids.specs.Id.{Id, is_same}
use Rattle.char_sequence.specs.declared.cell.Cell.{Cell}

-- there is a cell, and it has this id
abbrev pub has_id_at : Option Cell → Id → Bool
has_id_at None id = false
has_id_at (Some c) id = is_same c.id id
