use Rattle.std.proofs.Common.{◌≡◌, ◌+◌, ◌*◌, take}
use Rattle.char_sequence.specs.Sums.{seen}
use Rattle.char_sequence.proofs.lasting.seen_in_groups.Given as goal

-- those of the groups so far
abbrev pub invariant-loop-g : goal.invariant-loop-g
invariant-loop-g l = record { seen : l.count ≡ seen (take (64 * l.g) l.chunks); ticks : l.ticks ≡ l.fn.ticks + l.g }
