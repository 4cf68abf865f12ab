use Rattle.std.proofs.Common.{◌≡◌, take}
use Rattle.char_sequence.proofs.cell_list.CellList.of.Given as goal

-- the list has the cells that were passed
abbrev pub invariant-loop-cell : goal.invariant-loop-cell
invariant-loop-cell l = l.list ≡ take l.cell-index l.cells
