use Rattle.std.proofs.Common.{◌-◌, ◌≤◌, length}
use Rattle.char_sequence.specs.Chunks.{cells_of}
use Rattle.mark_anchors.specs.Keeping.{in_order}
use Rattle.span_flatten.specs.Passing.{IsOnWay}
use Rattle.span_flatten.specs.Reading.{offset}
use Rattle.span_flatten.proofs.changing.changes.Given as goal

-- the chunks read so far were passed
abbrev pub invariant-loop-size : goal.invariant-loop-size
invariant-loop-size l = record {
  within : l.i ≤ length l.sequence;
  passed : IsOnWay l.sweep l.since (cells_of l.sequence) (in_order l.anchors) (offset l.sequence l.i);
}

abbrev pub decreases-loop-size : goal.decreases-loop-size
decreases-loop-size l = length l.sequence - l.i
