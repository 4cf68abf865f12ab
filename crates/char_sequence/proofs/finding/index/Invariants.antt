use Rattle.std.proofs.Common.{◌≡◌, ◌+◌, length, take}
use Rattle.char_sequence.specs.Chunks.{cells_of}
use Rattle.char_sequence.proofs.finding.index.Given as goal

-- the cells of the chunks so far, and those before the place in its own
abbrev pub invariant-loop-i : goal.invariant-loop-i
invariant-loop-i l = l.count ≡ l.place.at + length (cells_of (take l.i l.chunks))
