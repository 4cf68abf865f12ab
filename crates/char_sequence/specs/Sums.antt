-- Used by private functions and proofs alone.
--
-- How many cells a reader sees.
use Rattle.std.specs.Prelude.{◌≡◌, ◌≤◌, ◌<◌, ◌+◌, ◌*◌, ℕ, List, length, take, drop}
use Rattle.std.specs.List.{sum_by}
use Rattle.std.proofs.Common.{get_or}
use Rattle.char_sequence.specs.declared.cell.Cell.{Cell}
use Rattle.char_sequence.specs.Cells.{behind_shown, shown, shown_at}
use Rattle.char_sequence.specs.Chunks.{cells_of, ChunkCells}
use Rattle.char_sequence.specs.declared.groups.TheConstants.{GROUP}

-- of a chunk
abbrev pub seen_in : List Cell → ℕ
seen_in k = length (shown k)

-- of all chunks
abbrev pub seen : ChunkCells → ℕ
seen held = sum_by seen_in held

-- of the g-th 64 chunks
abbrev pub seen_in_group : ChunkCells → ℕ → ℕ
seen_in_group held g = seen (take GROUP (drop (GROUP * g) held))

-- these are the counts of each whole 64 chunks, one behind the other
pub record AreGroups (groups : List ℕ) (held : ChunkCells) : Type 0 where
  pub whole : GROUP * length groups ≤ length held
  pub rest : length held < GROUP * length groups + GROUP
  pub each : (g : ℕ) → g < length groups → get_or groups g 0 ≡ seen_in_group held g

-- the k-th cell that a reader sees is the one with so many before it from a chunk on, and it stands in the next 64 chunks, if there are as many
pub record StartsAt (held : ChunkCells) (k chunk left : ℕ) : Type 0 where
  pub found : shown_at (cells_of held) k ≡ shown_at (cells_of (drop chunk held)) left
  pub rest : behind_shown (cells_of held) (k + 1) ≡ behind_shown (cells_of (drop chunk held)) (left + 1)
  pub here : chunk ≤ length held
  pub near : chunk + GROUP ≤ length held → left < seen (take GROUP (drop chunk held))
