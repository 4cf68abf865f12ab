-- Used by private functions and proofs alone.
--
-- Cells that are read one after another, and tombstones that are passed.
use Rattle.std.specs.Prelude.{◌≡◌, ◌<◌, ◌⊎◌, ◌++◌, List, [], ◌∷◌, Bool, false, if◌then◌else◌, Option, Some}
use Rattle.std.specs.List.{list_any}
use Rattle.op_ids.specs.Id.{Id, is_same}
use Rattle.char_sequence.specs.declared.cell.Cell.{Cell}
use Rattle.char_sequence.specs.declared.place.Place.{Place}
use Rattle.char_sequence.specs.Cells.{shown, first_removed}
use Rattle.char_sequence.specs.Chunks.{ChunkCells, before, from, IsPlace}

-- from a place on this cell comes first, and it stands before that place
pub record Passes (held : ChunkCells) (at : Place) (c : Cell) (behind : Place) : Type 0 where
  pub place : IsPlace held behind.chunk behind.at
  pub first : from held at.chunk at.at ≡ c ∷ from held behind.chunk behind.at
  pub passed : before held behind.chunk behind.at ≡ before held at.chunk at.at ++ c ∷ []

-- a place stands in a chunk before another place's, or in the same chunk before it
abbrev pub IsAhead : Place → Place → Type 0
IsAhead p q = (p.chunk < q.chunk) ⊎ ((p.chunk ≡ q.chunk) × (p.at < q.at))

-- from a place on only tombstones stand before another one
pub record Hides (held : ChunkCells) (at to : Place) : Type 0 where
  pub place : IsPlace held to.chunk to.at
  pub between : List Cell
  pub hidden : shown between ≡ []
  pub first : from held at.chunk at.at ≡ between ++ from held to.chunk to.at
  pub passed : before held to.chunk to.at ≡ before held at.chunk at.at ++ between

-- from a place on only tombstones stand before another one, and none from there on before the next cell that a reader sees
pub record HidesUpTo (held : ChunkCells) (at to : Place) : Type 0 where
  pub start : IsPlace held at.chunk at.at
  pub hides : Hides held at to
  pub ends : first_removed (from held to.chunk to.at) ≡ []

-- the ids of the tombstones that begin at a place
abbrev pub tombstones_from : ChunkCells → Place → List Id
tombstones_from held at = first_removed (from held at.chunk at.at)

-- the last of these ids that a mark ends after, or else this one
abbrev pub last_ended : (Id → Bool) → Option Id → List Id → Option Id
last_ended ends before [] = before
last_ended ends before (id ∷ ids) = last_ended ends (if ends id then Some id else before) ids

-- an id is one of these
abbrev pub is_among : Id → List Id → Bool
is_among id ids = list_any (λ e. is_same e id) ids

-- an id is one of these, and those behind it are the rest, where it isn't once more
pub record Splits (ids : List Id) (id : Id) (rest : List Id) : Type 0 where
  pub front : List Id
  pub split : ids ≡ front ++ id ∷ rest
  pub last : is_among id rest ≡ false
