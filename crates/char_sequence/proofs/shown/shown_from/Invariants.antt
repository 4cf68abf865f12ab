use Rattle.std.proofs.Common.{◌≡◌, ◌++◌, ◌-◌, ◌≤◌, length}
use Rattle.char_sequence.specs.Cells.{behind_shown}
use Rattle.char_sequence.specs.Chunks.{IsPlace, cells_of, from}
use Rattle.char_sequence.proofs.BehindLemmas.{ids_of}
use Rattle.char_sequence.proofs.shown.shown_from.Given as goal

-- those found so far, and then those from the place on, are all
abbrev pub invariant-loop-at : goal.invariant-loop-at
invariant-loop-at l = record {
  place : IsPlace l.chunks l.at.chunk l.at.at;
  found : ids_of l.count (behind_shown (cells_of l.chunks) l.k)
      ≡ l.ids.items ++ ids_of (l.count - length l.ids.items) (from l.chunks l.at.chunk l.at.at);
  few : length l.ids.items ≤ l.count;
}

abbrev pub decreases-loop-at : goal.decreases-loop-at
decreases-loop-at l = length (from l.chunks l.at.chunk l.at.at)
