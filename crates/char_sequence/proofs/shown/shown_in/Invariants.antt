use Rattle.std.proofs.Common.{◌≤◌, ◌+◌}
use Rattle.char_sequence.proofs.ShownLemmas.{SoFar}
use Rattle.char_sequence.proofs.shown.shown_in.Given as goal

abbrev pub invariant-loop-j : goal.invariant-loop-j
invariant-loop-j l = record {
  so_far : SoFar l.chunks l.i l.j l.k l.left;
  ticks : l.ticks ≤ l.fn.ticks + l.j;
  rising : l.fn.ticks ≤ l.ticks;
}
