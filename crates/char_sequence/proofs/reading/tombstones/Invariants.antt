use Rattle.std.proofs.Common.{◌≡◌, ◌++◌, length}
use Rattle.char_sequence.specs.Cells.{first_removed}
use Rattle.char_sequence.specs.Chunks.{IsPlace, from}
use Rattle.char_sequence.proofs.reading.tombstones.Given as goal

-- those found so far, and then those from the place on, are all
abbrev pub invariant-loop-cell : goal.invariant-loop-cell
invariant-loop-cell l = record {
  place : IsPlace l.chunks l.at.chunk l.at.at;
  found : first_removed (from l.chunks l.fn.from.chunk l.fn.from.at) ≡ l.found.items ++ first_removed (from l.chunks l.at.chunk l.at.at);
}

abbrev pub decreases-loop-cell : goal.decreases-loop-cell
decreases-loop-cell l = length (from l.chunks l.at.chunk l.at.at)
