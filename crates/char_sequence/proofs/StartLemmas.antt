-- The beginning of the text as a place, and cells that are read from there on.
use Rattle.std.proofs.Common.{◌≡◌, ◌<◌, [], ◌∷◌, length, refl, ap, arith}
use Rattle.char_sequence.specs.declared.cell.Cell.{Cell}
use Rattle.char_sequence.specs.declared.place.Place.{Place}
use Rattle.char_sequence.specs.Chunks.{ChunkCells, IsPlace, before, cells_of, from}
use Rattle.char_sequence.specs.Reading.{Passes}

pub start_place : (held : ChunkCells) → IsPlace held 0 0
start_place [] = (refl, refl)
start_place (k ∷ ks) = (omega arith, omega arith)

pub from_start : (held : ChunkCells) → from held 0 0 ≡ cells_of held
from_start [] = refl
from_start (k ∷ ks) = refl

pub before_start : (held : ChunkCells) → before held 0 0 ≡ []
before_start held = refl

-- with each cell that is passed fewer are left
pub fewer : (held : ChunkCells) (at behind : Place) (c : Cell) → Passes held at c behind
    → length (from held behind.chunk behind.at) < length (from held at.chunk at.at)
fewer held at behind c passes = let one = ap length passes.first in omega arith
