use Rattle.std.proofs.Common.{◌≡◌, ◌≤◌, ◌<◌, ◌-◌, ◌*◌, ◌++◌, length, drop}
use Rattle.char_sequence.specs.Chunks.{cells_of, AreSized}
use Rattle.char_sequence.proofs.cutting.cut.Given as goal

-- the chunks so far are of 256 cells each, and more than 256 cells are left behind them
abbrev pub invariant-loop-from : goal.invariant-loop-from
invariant-loop-from l = record {
  within : l.from ≤ length l.cells;
  count : l.from ≡ 256 * length l.chunks.items;
  left : 0 < l.from → 256 < length l.cells - l.from;
  cut : cells_of l.chunks.items ++ drop l.from l.cells ≡ l.cells;
  sized : AreSized 256 l.chunks.items;
}

abbrev pub decreases-loop-from : goal.decreases-loop-from
decreases-loop-from l = length l.cells - l.from
