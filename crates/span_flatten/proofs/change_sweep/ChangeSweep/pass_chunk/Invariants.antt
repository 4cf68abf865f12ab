use Rattle.std.proofs.Common.{◌+◌}
use Rattle.char_sequence.specs.Chunks.{cells_of}
use Rattle.mark_anchors.specs.Keeping.{in_order}
use Rattle.span_flatten.specs.Reading.{offset}
use Rattle.span_flatten.specs.Passing.{IsPassed}
use Rattle.span_flatten.proofs.change_sweep.ChangeSweep.pass_chunk.Given as goal

-- the characters read so far were passed
abbrev pub invariant-loop-j : goal.invariant-loop-j
invariant-loop-j l = IsPassed l.self l.since (cells_of l.sequence) (in_order l.anchors) (offset l.sequence l.chunk.index + l.j)
