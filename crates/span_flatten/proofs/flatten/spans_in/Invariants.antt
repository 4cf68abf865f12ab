use Rattle.std.proofs.Common.{◌-◌, ◌+◌, ◌≤◌, length}
use Rattle.char_sequence.specs.Chunks.{cells_of}
use Rattle.mark_anchors.specs.Keeping.{in_order}
use Rattle.span_flatten.specs.Reading.{offset}
use Rattle.span_flatten.specs.Sweeping.{IsSwept}
use Rattle.span_flatten.proofs.flatten.spans_in.Given as goal

-- the chunks read so far were passed, with a tick for each, and one for each of their characters
abbrev pub invariant-loop-size : goal.invariant-loop-size
invariant-loop-size l = record {
  within : l.i ≤ length l.sequence;
  swept : IsSwept l.sweep (cells_of l.sequence) (in_order l.anchors) (offset l.sequence l.i);
  ticks : l.ticks ≤ l.fn.ticks + (l.i + offset l.sequence l.i);
  rising : l.fn.ticks ≤ l.ticks;
}

abbrev pub decreases-loop-size : goal.decreases-loop-size
decreases-loop-size l = length l.sequence - l.i
