-- Used by private functions and proofs alone.
--
-- Which cells have been read where chunks are read one after another.
use Rattle.std.specs.Prelude.{ℕ, length, take}
use Rattle.char_sequence.specs.Chunks.{ChunkCells, cells_of}

-- how many cells stand before the i-th chunk
abbrev pub offset : ChunkCells → ℕ → ℕ
offset held i = length (cells_of (take i held))
