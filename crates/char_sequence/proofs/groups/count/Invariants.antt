use Rattle.std.proofs.Common.{◌≡◌, ◌<◌, ℕ, get_or}
use Rattle.char_sequence.specs.Sums.{seen_in_group}
use Rattle.char_sequence.proofs.groups.count.Given as goal

-- those that were counted are right
abbrev pub invariant-loop-g : goal.invariant-loop-g
invariant-loop-g l = (h : ℕ) → h < l.g → get_or l.groups h 0 ≡ seen_in_group l.chunks h
