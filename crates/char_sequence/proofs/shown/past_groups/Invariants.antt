use Rattle.std.proofs.Common.{◌≡◌, ◌+◌, ◌*◌, drop}
use Rattle.char_sequence.specs.Cells.{behind_shown, shown_at}
use Rattle.char_sequence.specs.Chunks.{cells_of}
use Rattle.char_sequence.proofs.shown.past_groups.Given as goal

-- the cell stands behind the 64 chunks that were passed
abbrev pub invariant-loop-g : goal.invariant-loop-g
invariant-loop-g l = record {
  found : shown_at (cells_of l.chunks) l.k ≡ shown_at (cells_of (drop (64 * l.g) l.chunks)) l.left;
  rest : behind_shown (cells_of l.chunks) (l.k + 1) ≡ behind_shown (cells_of (drop (64 * l.g) l.chunks)) (l.left + 1);
  ticks : l.ticks ≡ l.fn.ticks + l.g;
}
