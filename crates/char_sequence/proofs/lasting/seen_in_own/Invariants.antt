use Rattle.std.proofs.Common.{◌≡◌, ◌≤◌, ◌+◌, [], get_or, length, take}
use Rattle.char_sequence.specs.Cells.{shown}
use Rattle.char_sequence.proofs.lasting.seen_in_own.Given as goal

-- those of the cells so far
abbrev pub invariant-loop-j : goal.invariant-loop-j
invariant-loop-j l = record {
  seen : l.count ≡ length (shown (take l.j (get_or l.chunks l.place.chunk [])));
  few : l.count ≤ l.j;
  ticks : l.ticks ≡ l.fn.ticks + l.j;
}
