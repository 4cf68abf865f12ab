-- The places between the characters that a reader sees.
use Rattle.std.specs.Prelude.{◌≡◌, ◌+◌, ℕ, zero, suc, List, Option, Some, None}
use Rattle.op_ids.specs.Id.{Id}
use Rattle.char_sequence.specs.declared.cell.Cell.{Cell}
use Rattle.char_sequence.specs.declared.gap.Gap.{Gap}
use Rattle.char_sequence.specs.declared.gap.Seen.{Seen}
use Rattle.char_sequence.specs.Cells.{behind_shown, shown_at}
use Rattle.char_sequence.specs.Chunks.{ChunkCells, IsPlace, cells_of, from}

-- the last of the first k cells that a reader sees
abbrev pub shown_before : List Cell → ℕ → Option Id
shown_before cs zero = None
shown_before cs (suc k) = shown_at cs k

-- a gap stands behind the first so many cells that a reader sees, of which it knows the last
pub record IsGap (held : ChunkCells) (gap : Gap) : Type 0 where
  pub place : IsPlace held gap.place.chunk gap.place.at
  pub rest : from held gap.place.chunk gap.place.at ≡ behind_shown (cells_of held) gap.count
  pub before : gap.before ≡ shown_before (cells_of held) gap.count

-- the cell is the k-th that a reader sees from a place on, and this is the place behind it
pub record IsSeen (held : ChunkCells) (i j k : ℕ) (seen : Seen) : Type 0 where
  pub id : shown_at (from held i j) k ≡ Some seen.id
  pub place : IsPlace held seen.behind.chunk seen.behind.at
  pub rest : from held seen.behind.chunk seen.behind.at ≡ behind_shown (from held i j) (k + 1)
