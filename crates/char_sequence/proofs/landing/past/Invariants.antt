use Rattle.std.proofs.Common.{◌≡◌, ◌++◌, length}
use Rattle.char_sequence.specs.Cells.{past_greater}
use Rattle.char_sequence.specs.Chunks.{before, from, IsPlace}
use Rattle.char_sequence.proofs.landing.past.Given as goal

-- those that were passed have greater ids
abbrev pub invariant-loop-other : goal.invariant-loop-other
invariant-loop-other l = record {
  place : IsPlace l.chunks l.at.chunk l.at.at;
  past : before l.chunks l.from.chunk l.from.at ++ past_greater l.cell (from l.chunks l.from.chunk l.from.at)
      ≡ before l.chunks l.at.chunk l.at.at ++ past_greater l.cell (from l.chunks l.at.chunk l.at.at);
}

abbrev pub decreases-loop-other : goal.decreases-loop-other
decreases-loop-other l = length (from l.chunks l.at.chunk l.at.at)
