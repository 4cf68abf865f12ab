use Rattle.std.proofs.Common.{◌≡◌, ◌++◌, length}
use Rattle.char_sequence.specs.Cells.{shown_values}
use Rattle.char_sequence.specs.Chunks.{IsPlace, cells_of, from}
use Rattle.char_sequence.proofs.reading.values.Given as goal

-- those found so far, and then those from the place on, are all
abbrev pub invariant-loop-cell : goal.invariant-loop-cell
invariant-loop-cell l = record {
  place : IsPlace l.chunks l.at.chunk l.at.at;
  found : shown_values (cells_of l.chunks) ≡ l.found.items ++ shown_values (from l.chunks l.at.chunk l.at.at);
}

abbrev pub decreases-loop-cell : goal.decreases-loop-cell
decreases-loop-cell l = length (from l.chunks l.at.chunk l.at.at)
