use Rattle.std.proofs.Common.{◌≡◌, ◌++◌}
use Rattle.std.specs.Prelude.{slice_range}
use Rattle.char_sequence.proofs.chunk.Chunk.put_range.Given as goal

-- those that were passed stand behind the others
abbrev pub invariant-loop-j : goal.invariant-loop-j
invariant-loop-j l = l.into.items ≡ l.initial.into.items ++ slice_range l.self l.from l.j
