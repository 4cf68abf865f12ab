-- Used by private functions and proofs alone.
--
-- Where a cell goes.
use Rattle.std.specs.Prelude.{◌≡◌, ◌++◌, List, [], ◌∷◌, true, false, Option}
use Rattle.op_ids.specs.Id.{Id, is_below}
use Rattle.char_sequence.specs.declared.cell.Cell.{Cell}
use Rattle.char_sequence.specs.declared.place.Place.{Place}
use Rattle.char_sequence.specs.Cells.{inserted, is_known}
use Rattle.char_sequence.specs.Chunks.{ChunkCells, before, from, cells_of, IsPlace}
use Rattle.char_sequence.specs.Weave.{AreOnce}

-- the first of these has no greater id
abbrev pub Stops : Cell → List Cell → Type 0
Stops c [] = Unit {0}
Stops c (d ∷ ds) = is_below c.id d.id ≡ false

-- the origin is there, and where no two cells have one id, what hangs from it goes to this place
pub record Lands (held : ChunkCells) (origin : Option Id) (c : Cell) (at : Place) : Type 0 where
  pub known : is_known (cells_of held) origin ≡ true
  pub place : IsPlace held at.chunk at.at
  pub stops : Stops c (from held at.chunk at.at)
  pub placed : AreOnce (cells_of held) → inserted origin c (cells_of held) ≡ before held at.chunk at.at ++ c ∷ from held at.chunk at.at
