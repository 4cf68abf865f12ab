use Rattle.std.proofs.Common.{length}
use Rattle.char_sequence.specs.Chunks.{from}
use Rattle.char_sequence.specs.Reading.{Hides}
use Rattle.char_sequence.proofs.hidden.first_shown.Given as goal

abbrev pub invariant-loop-cell : goal.invariant-loop-cell
invariant-loop-cell l = Hides l.chunks l.fn.from l.at

abbrev pub decreases-loop-cell : goal.decreases-loop-cell
decreases-loop-cell l = length (from l.chunks l.at.chunk l.at.at)
