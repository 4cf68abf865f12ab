use Rattle.std.proofs.Common.{◌≡◌, ◌≤◌, ◌<◌, ◌+◌, ◌-◌, length, take, drop}
use Rattle.char_sequence.specs.Cells.{behind_shown, shown_at}
use Rattle.char_sequence.specs.Chunks.{cells_of}
use Rattle.char_sequence.specs.Sums.{seen}
use Rattle.char_sequence.proofs.shown.shown.Given as goal

abbrev pub invariant-loop-size : goal.invariant-loop-size
invariant-loop-size l = record {
  found : shown_at (cells_of l.chunks) l.k ≡ shown_at (cells_of (drop l.i l.chunks)) l.left;
  rest : behind_shown (cells_of l.chunks) (l.k + 1) ≡ behind_shown (cells_of (drop l.i l.chunks)) (l.left + 1);
  here : l.i ≤ length l.chunks;
  low : l.initial.i ≤ l.i;
  near : l.initial.i + 64 ≤ length l.chunks → l.left < seen (take (l.initial.i + 64 - l.i) (drop l.i l.chunks));
  ticks : l.ticks ≤ l.initial.ticks + (l.i - l.initial.i);
  rising : l.initial.ticks ≤ l.ticks;
}

abbrev pub decreases-loop-size : goal.decreases-loop-size
decreases-loop-size l = length l.chunks - l.i
