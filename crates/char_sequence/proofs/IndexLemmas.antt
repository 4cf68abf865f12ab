-- How many cells stand before the one with an id.
use Rattle.std.proofs.Common.{◌≡◌, ℕ, ◌+◌, true, List, [], ◌∷◌, ◌++◌, length, Some, refl, ◌∙◌, ap, arith}
use Rattle.op_ids.specs.Id.{Id, is_same}
use Rattle.char_sequence.specs.declared.cell.Cell.{Cell}
use Rattle.char_sequence.specs.Cells.{place_of, raised}
use Rattle.char_sequence.specs.Chunks.{ChunkCells, IsPlace, IsPlaceOf, before, cells_of, from}
use Rattle.char_sequence.specs.Weave.{AreOnce}
use Rattle.char_sequence.proofs.LandingLemmas.{around}
use Rattle.char_sequence.proofs.OnceLemmas.{other_id}
use Rattle.char_sequence.proofs.PlaceLemmas.{in_its_chunk, is_place}
use Rattle.std.proofs.lemmas.Option.{slice_get_within}

-- where each id is there once, the one cell with it has as many before it as stand there
place_there : (front : List Cell) (d : Cell) (rest : List Cell) (id : Id) → AreOnce (front ++ d ∷ rest) → is_same d.id id ≡ true
    → place_of id (front ++ d ∷ rest) ≡ Some (length front)
place_there [] d rest id once same = rw same refl
place_there (e ∷ front) d rest id once same =
    rw (other_id e d front rest id once.0 same) (ap (raised 1) (place_there front d rest id once.1 same) ∙ ap Some (omega arith))

pub index_there : (held : ChunkCells) (id : Id) (i j : ℕ) → IsPlaceOf held id i j → AreOnce (cells_of held)
    → place_of id (cells_of held) ≡ Some (length (before held i j))
index_there held id i j there once =
    let all = around held id i j there in
    ap (place_of id) all ∙ place_there (before held i j) there.c (from held i (j + 1)) id (rw all at once) there.same

-- the place of a cell is a place
pub place_of_cell : (held : ChunkCells) (id : Id) (i j : ℕ) → IsPlaceOf held id i j → IsPlace held i j
place_of_cell held id i j there =
    let here = in_its_chunk held i j there.c there.cell in
    let below = slice_get_within _ j there.c here.1 in
    is_place held i j here.0 (omega arith)
