use Rattle.std.proofs.Common.{◌≤◌, ◌-◌, length}
use Rattle.char_sequence.proofs.hints.Hints.gathered.Given as goal

abbrev pub invariant-loop-size : goal.invariant-loop-size
invariant-loop-size l = l.i ≤ length l.chunks

abbrev pub decreases-loop-size : goal.decreases-loop-size
decreases-loop-size l = length l.chunks - l.i
