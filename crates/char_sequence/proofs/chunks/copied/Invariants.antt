use Rattle.std.proofs.Common.{◌≡◌}
use Rattle.std.specs.Prelude.{take}
use Rattle.char_sequence.proofs.chunks.copied.Given as goal

-- those that were passed are copied
abbrev pub invariant-loop-chunk : goal.invariant-loop-chunk
invariant-loop-chunk l = l.copied.items ≡ take l.chunk-index l.chunks
