use Rattle.std.proofs.Common.{◌≡◌, drop}
use Rattle.char_sequence.specs.Cells.{has_cell}
use Rattle.char_sequence.proofs.cell_list.CellList.find.Given as goal

-- none of those that were passed has the id
abbrev pub invariant-loop-i : goal.invariant-loop-i
invariant-loop-i l = has_cell l.self l.id ≡ has_cell (drop l.i l.self) l.id
