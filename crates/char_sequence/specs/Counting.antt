-- How many characters a sequence has.
use Rattle.std.specs.Prelude.{ℕ, length}
use Rattle.char_sequence.specs.Chunks.{ChunkCells, cells_of}

-- all of them, tombstones counted
abbrev pub count_of : ChunkCells → ℕ
count_of held = length (cells_of held)
