-- Where a cell lands: behind its origin, and past all greater ids that follow.
use Rattle.std.proofs.Common.{◌≡◌, ℕ, ◌+◌, ◌<◌, true, List, ◌∷◌, ◌++◌, Option, Some, sym, ◌∙◌, ap, subst}
use Rattle.op_ids.specs.Id.{Id}
use Rattle.char_sequence.specs.declared.cell.Cell.{Cell}
use Rattle.char_sequence.specs.declared.place.Place.{Place}
use Rattle.char_sequence.specs.Cells.{behind, past_greater, removed}
use Rattle.char_sequence.specs.Chunks.{AreSized, ChunkCells, IsPlace, IsPlaceOf, before, cell_at, cells_of, from}
use Rattle.char_sequence.specs.Landing.{Lands, Stops}
use Rattle.char_sequence.specs.Weave.{AreOnce}
use Rattle.char_sequence.proofs.FindLemmas.{has_there}
use Rattle.char_sequence.proofs.OnceLemmas.{behind_there, removed_here}
use Rattle.char_sequence.proofs.PlaceLemmas.{before_cell, fits_behind, from_cell, joined, place_behind}

-- all cells are those before a cell, it, and those behind it
pub around : (held : ChunkCells) (id : Id) (i j : ℕ) → (there : IsPlaceOf held id i j) → cells_of held ≡ before held i j ++ there.c ∷ from held i (j + 1)
around held id i j there = sym (joined held i j) ∙ ap (λ ds. before held i j ++ ds) (from_cell held i j there.c there.cell)

-- what hangs from a cell goes to the first place behind it that no greater id stands behind
pub lands_behind : (held : ChunkCells) (origin : Option Id) (id : Id) (c : Cell) (i j : ℕ) (at : Place) → origin ≡ Some id → IsPlaceOf held id i j
    → IsPlace held at.chunk at.at → Stops c (from held at.chunk at.at)
    → before held i (j + 1) ++ past_greater c (from held i (j + 1)) ≡ before held at.chunk at.at ++ c ∷ from held at.chunk at.at
    → Lands held origin c at
lands_behind held origin id c i j at is there place stops past = rw is (record {
  known = has_there held id i j there;
  place = place;
  stops = stops;
  placed = λ once.
      ap (behind id c) (around held id i j there)
      ∙ (behind_there (before held i j) there.c (from held i (j + 1)) id c (subst AreOnce (around held id i j there) once) there.same
      ∙ (ap (λ ds. ds ++ past_greater c (from held i (j + 1))) (sym (before_cell held i j there.c there.cell)) ∙ past));
})

-- the place behind a cell
pub behind_place : (held : ChunkCells) (id : Id) (i j : ℕ) → IsPlaceOf held id i j → IsPlace held i (j + 1)
behind_place held id i j there = place_behind held i j there.c there.cell

pub behind_fits : (held : ChunkCells) (id : Id) (i j : ℕ) → AreSized 1 held → IsPlaceOf held id i j → j < 512
behind_fits held id i j sized there = fits_behind held i j there.c sized there.cell

-- a remove of a cell's id makes the cell at its place a tombstone
pub removed_at : (held : ChunkCells) (id : Id) (i j : ℕ) (new : List Cell) → (there : IsPlaceOf held id i j) → AreOnce (cells_of held)
    → ((c : Cell) → cell_at held i j ≡ Some c → new ≡ before held i j ++ record c { is_removed = true } ∷ from held i (j + 1))
    → new ≡ removed id (cells_of held)
removed_at held id i j new there once gone =
    gone there.c there.cell
    ∙ (sym (removed_here (before held i j) there.c (from held i (j + 1)) id (subst AreOnce (around held id i j there) once) there.same)
    ∙ ap (removed id) (sym (around held id i j there)))
