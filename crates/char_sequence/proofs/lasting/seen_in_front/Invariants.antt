use Rattle.std.proofs.Common.{◌≡◌, ◌+◌, ◌*◌, ◌/◌, take}
use Rattle.char_sequence.specs.Sums.{seen}
use Rattle.char_sequence.proofs.lasting.seen_in_front.Given as goal

-- those of the chunks so far
abbrev pub invariant-loop-j : goal.invariant-loop-j
invariant-loop-j l = record {
  seen : l.count ≡ seen (take l.j l.chunks);
  ticks : l.ticks + 64 * (l.i / 64) ≡ l.fn.ticks + (l.i / 64 + l.j);
}
