use Rattle.std.proofs.Common.{◌-◌, length}
use Rattle.char_sequence.specs.Reading.{Hides}
use Rattle.char_sequence.proofs.hidden.past_hidden.Given as goal

abbrev pub invariant-loop-next : goal.invariant-loop-next
invariant-loop-next l = Hides l.chunks l.fn.from l.at

abbrev pub decreases-loop-next : goal.decreases-loop-next
decreases-loop-next l = length l.chunks - l.at.chunk
