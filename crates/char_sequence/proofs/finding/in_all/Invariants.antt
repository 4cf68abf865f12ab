use Rattle.std.proofs.Common.{◌≡◌, ◌-◌, drop, length}
use Rattle.char_sequence.specs.Cells.{has_cell}
use Rattle.char_sequence.specs.Chunks.{cells_of}
use Rattle.char_sequence.proofs.finding.in_all.Given as goal

-- none of the chunks that were passed has the id
abbrev pub invariant-loop-found : goal.invariant-loop-found
invariant-loop-found l = has_cell (cells_of l.chunks) l.id ≡ has_cell (cells_of (drop l.i l.chunks)) l.id

abbrev pub decreases-loop-found : goal.decreases-loop-found
decreases-loop-found l = length l.chunks - l.i
