-- How a sequence keeps its characters: in chunks of at most 512, one behind the other.
use Rattle.std.specs.Prelude.{true, Some, ◌≡◌, ◌≤◌, ◌<◌, ◌++◌, ◌+◌, ℕ, List, [], ◌∷◌, length, take, drop, Option, option_and_then, slice_get}
use Rattle.std.proofs.Common.{get_or}
use Rattle.char_sequence.specs.declared.cell.Cell.{Cell}
use Rattle.char_sequence.specs.declared.chunk_size.ChunkSize.{ChunkSize}
use Rattle.char_sequence.specs.Cells.{shown}
use Rattle.op_ids.specs.Id.{Id, is_same}
use Rattle.char_sequence.specs.declared.chunk.TheConstants.{MAX_CHUNK, MIN_CHUNK}

-- the chunks of a sequence, in the order of the text
abbrev pub ChunkCells : Type 0
ChunkCells = List (List Cell)

-- the cells of chunks, one behind the other
abbrev pub cells_of : ChunkCells → List Cell
cells_of [] = []
cells_of (k ∷ ks) = k ++ cells_of ks

-- how many cells a chunk has, and how many of these a reader sees
abbrev pub size_of : List Cell → ChunkSize
size_of k = record { cells = length k; shown = length (shown k) }

-- the size of the i-th chunk, if there is one
abbrev pub size_at : ChunkCells → ℕ → Option ChunkSize
size_at held i = option_and_then (λ k. Some (size_of k)) (slice_get held i)

-- the j-th cell of the i-th chunk, if there is one
abbrev pub cell_at : ChunkCells → ℕ → ℕ → Option Cell
cell_at held i j = option_and_then (λ k. slice_get k j) (slice_get held i)

-- each of these chunks has at least a given number of cells, and at most 512
abbrev pub AreSized : ℕ → ChunkCells → Type 0
AreSized least [] = Unit {0}
AreSized least (k ∷ ks) = (least ≤ length k) × (length k ≤ MAX_CHUNK) × AreSized least ks

-- no chunk is empty, and where there are several, each has at least 256 cells
pub record AreChunks (held : ChunkCells) : Type 0 where
  pub sized : AreSized 1 held
  pub halved : 1 < length held → AreSized MIN_CHUNK held

-- what stands before a place: before the j-th cell of the i-th chunk
abbrev pub before : ChunkCells → ℕ → ℕ → List Cell
before held i j = cells_of (take i held) ++ take j (get_or held i [])

-- what stands from a place on
abbrev pub from : ChunkCells → ℕ → ℕ → List Cell
from held i j = drop j (get_or held i []) ++ cells_of (drop (i + 1) held)

-- a place: before a cell of a chunk, or behind its last one; the beginning, where there is no chunk
abbrev pub IsPlace : ChunkCells → ℕ → ℕ → Type 0
IsPlace [] i j = (i ≡ 0) × (j ≡ 0)
IsPlace (k ∷ ks) i j = (i < length (k ∷ ks)) × (j ≤ length (get_or (k ∷ ks) i []))

-- from 1 to 512 cells, and how many of them a reader sees
pub record IsChunk (cells : List Cell) (visible : ℕ) : Type 0 where
  pub some : 0 < length cells
  pub few : length cells ≤ MAX_CHUNK
  pub counted : visible ≡ length (shown cells)

-- a place of the text: i chunks before it, and j cells of its own
pub record IsPlaceOf (held : ChunkCells) (id : Id) (i j : ℕ) : Type 0 where
  pub c : Cell
  pub cell : cell_at held i j ≡ Some c
  pub same : is_same c.id id ≡ true
