use Rattle.std.proofs.Common.{◌≡◌, ◌≤◌, ◌-◌, length, take}
use Rattle.char_sequence.specs.Chunks.{cells_of}
use Rattle.mark_anchors.proofs.force.count.Given as goal

-- the cells of the chunks so far
abbrev pub invariant-loop-size : goal.invariant-loop-size
invariant-loop-size l = record {
  within : l.i ≤ length l.sequence;
  count : l.count ≡ length (cells_of (take l.i l.sequence));
}

abbrev pub decreases-loop-size : goal.decreases-loop-size
decreases-loop-size l = length l.sequence - l.i
