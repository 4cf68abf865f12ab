-- Used by private functions and proofs alone.
--
-- Cells of which the last ones have no chunk yet.
use Rattle.std.specs.Prelude.{◌≤◌, ◌<◌, List, length}
use Rattle.char_sequence.specs.declared.cell.Cell.{Cell}
use Rattle.char_sequence.specs.Chunks.{AreSized, ChunkCells}
use Rattle.char_sequence.specs.declared.chunk.TheConstants.{MAX_CHUNK, MIN_CHUNK}

-- each chunk has at least 256 cells, and the rest are at most 512, and at least 256 if there is a chunk
pub record IsBuilding (chunks : ChunkCells) (rest : List Cell) : Type 0 where
  pub sized : AreSized MIN_CHUNK chunks
  pub few : length rest ≤ MAX_CHUNK
  pub many : 0 < length chunks → MIN_CHUNK ≤ length rest
