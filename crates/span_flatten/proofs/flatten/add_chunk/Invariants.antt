use Rattle.std.proofs.Common.{◌≡◌, ◌+◌, take}
use Rattle.char_sequence.specs.Chunks.{cells_of}
use Rattle.span_flatten.specs.Reading.{offset}
use Rattle.span_flatten.proofs.flatten.add_chunk.Given as goal

abbrev pub invariant-loop-j : goal.invariant-loop-j
invariant-loop-j l = l.found.items ≡ take (offset l.sequence l.i + l.j) (cells_of l.sequence)
