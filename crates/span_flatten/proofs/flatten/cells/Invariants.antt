use Rattle.std.proofs.Common.{◌≡◌, ◌-◌, ◌≤◌, length, take}
use Rattle.char_sequence.specs.Chunks.{cells_of}
use Rattle.span_flatten.specs.Reading.{offset}
use Rattle.span_flatten.proofs.flatten.cells.Given as goal

-- those that were read are the first ones
abbrev pub invariant-loop-size : goal.invariant-loop-size
invariant-loop-size l = record {
  within : l.i ≤ length l.sequence;
  read : l.found.items ≡ take (offset l.sequence l.i) (cells_of l.sequence);
}

abbrev pub decreases-loop-size : goal.decreases-loop-size
decreases-loop-size l = length l.sequence - l.i
