use Rattle.std.proofs.Common.{◌≡◌, length}
use Rattle.char_sequence.specs.Chunks.{IsPlace, from}
use Rattle.char_sequence.specs.Reading.{last_ended, tombstones_from}
use Rattle.char_sequence.proofs.ended.last_asked.Given as goal

-- what is known so far decides with the tombstones from the place on
abbrev pub invariant-loop-cell : goal.invariant-loop-cell
invariant-loop-cell g l = record {
  place : IsPlace l.chunks l.at.chunk l.at.at;
  last : last_ended (g.M.EndsAfter.ends_after l.marks) l.fn.before (tombstones_from l.chunks l.fn.from)
      ≡ last_ended (g.M.EndsAfter.ends_after l.marks) l.last (tombstones_from l.chunks l.at);
}

abbrev pub decreases-loop-cell : goal.decreases-loop-cell
decreases-loop-cell g l = length (from l.chunks l.at.chunk l.at.at)
