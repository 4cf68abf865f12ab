use Rattle.std.proofs.Common.{◌+◌, ◌≤◌}
use Rattle.char_sequence.specs.Chunks.{cells_of}
use Rattle.mark_anchors.specs.Keeping.{in_order}
use Rattle.span_flatten.specs.Reading.{offset}
use Rattle.span_flatten.specs.Sweeping.{IsSwept}
use Rattle.span_flatten.proofs.sweep.Sweep.pass_chunk.Given as goal

-- the characters read so far were passed, with a tick for each
abbrev pub invariant-loop-j : goal.invariant-loop-j
invariant-loop-j l = record {
  swept : IsSwept l.self (cells_of l.sequence) (in_order l.anchors) (offset l.sequence l.chunk.index + l.j);
  ticks : l.ticks ≤ l.fn.ticks + l.j;
  rising : l.fn.ticks ≤ l.ticks;
}
