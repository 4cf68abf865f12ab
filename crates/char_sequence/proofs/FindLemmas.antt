-- Where a cell of an id is, chunk by chunk and cell by cell.
use Rattle.std.proofs.Common.{◌≡◌, ℕ, zero, suc, ◌+◌, ◌≤◌, ◌<◌, true, false, List, [], ◌∷◌, length, drop, get_or, Option, Some, None, refl, sym, ◌∙◌, ap}
use Rattle.std.proofs.Common.{add-one, arith}
use Rattle.std.specs.List.{list_all, slice_get}
use Rattle.std.proofs.Math.ListN.{drop_of_length-le}
use Rattle.std.proofs.lemmas.List.{drop_more}
use Rattle.std.proofs.lemmas.List.Folds.{list_any-append}
use Rattle.std.proofs.lemmas.Bool.{or_left, or_right}
use Rattle.std.proofs.lemmas.Bool.Decides.{nat_tests}
use Rattle.op_ids.specs.Id.{Id, is_same}
use Rattle.char_sequence.specs.declared.cell.Cell.{Cell}
use Rattle.char_sequence.specs.Cells.{has_cell, is_known}
use Rattle.char_sequence.specs.Chunks.{ChunkCells, IsPlaceOf, before, cell_at, cells_of, from}
use Rattle.char_sequence.specs.Finding.{has_id_at}
use Rattle.char_sequence.proofs.PlaceLemmas.{from_cell, in_its_chunk, joined}

-- the cell that has an id is there
pub cell_there : (found : Option Cell) (id : Id) → has_id_at found id ≡ true → (c : Cell) × (found ≡ Some c) × (is_same c.id id ≡ true)
cell_there None id is = absurd (cc)
cell_there (Some c) id is = (c, refl, is)

-- a cell with this id is at its place
pub is_place_of : (held : ChunkCells) (id : Id) (i j : ℕ) → has_id_at (cell_at held i j) id ≡ true → IsPlaceOf held id i j
is_place_of held id i j is = let one = cell_there (cell_at held i j) id is in record { c = one.0; cell = one.1; same = one.2 }

-- a cell without the id can be passed
pub pass_cell : (cs : List Cell) (j : ℕ) (id : Id) → has_id_at (slice_get cs j) id ≡ false → has_cell (drop j cs) id ≡ has_cell (drop (j + 1) cs) id
pass_cell [] zero id other = refl
pass_cell [] (suc j) id other = rw add-one refl
pass_cell (c ∷ cs) zero id other = rw other refl
pass_cell (c ∷ cs) (suc j) id other = let rest = pass_cell cs j id other in rw (add-one (suc j)) (rw add-one at rest)

-- all chunks were passed
pub passed_all_chunks : (held : ChunkCells) (i : ℕ) (id : Id) → length held ≤ i
    → has_cell (cells_of held) id ≡ has_cell (cells_of (drop i held)) id → has_cell (cells_of held) id ≡ false
passed_all_chunks held i id end so = so ∙ ap (λ ks. has_cell (cells_of ks) id) (drop_of_length-le held end)

-- a cell that is at a place is there
pub has_there : (held : ChunkCells) (id : Id) (i j : ℕ) → IsPlaceOf held id i j → has_cell (cells_of held) id ≡ true
has_there held id i j there =
    let same = there.same in
    rw (← joined held i j, from_cell held i j there.c there.cell)
    (list_any-append (λ c. is_same c.id id) (before held i j) (there.c ∷ from held i (j + 1)) ∙ grind (arith, nat_tests))

pub known_there : (held : ChunkCells) (origin : Option Id) (id : Id) (i j : ℕ) → IsPlaceOf held id i j → origin ≡ Some id
    → true ≡ is_known (cells_of held) origin
known_there held origin id i j there is = rw is (sym (has_there held id i j there))

-- an id that is there can be passed
pub pass_known : (held : ChunkCells) (ids : List Id) (k i j : ℕ) (id : Id) → k < length ids → id ≡ get_or ids k id → IsPlaceOf held id i j
    → list_all (λ n. has_cell (cells_of held) n) ids ≡ list_all (λ n. has_cell (cells_of held) n) (drop k ids)
    → list_all (λ n. has_cell (cells_of held) n) ids ≡ list_all (λ n. has_cell (cells_of held) n) (drop (k + 1) ids)
pass_known held ids k i j id within is_it there so =
    so ∙ rw (drop_more ids k id within, ← is_it, has_there held id i j there) refl

-- a cell that is at a place is in its chunk
pub in_that_chunk : (held : ChunkCells) (id : Id) (i j : ℕ) → IsPlaceOf held id i j → (i < length held) × (has_cell (get_or held i []) id ≡ true)
in_that_chunk held id i j there =
    let at = in_its_chunk held i j there.c there.cell in (at.0, found (get_or held i []) j at.1)
  where
    found : (cs : List Cell) (n : ℕ) → slice_get cs n ≡ Some there.c → has_cell cs id ≡ true
    found [] n e = absurd (cc)
    found (c ∷ cs) zero e = let same : c ≡ there.c = cc in or_left (is_same c.id id) (has_cell cs id) (ap (λ (x : Cell). is_same x.id id) same ∙ there.same)
    found (c ∷ cs) (suc n) e = or_right (is_same c.id id) (has_cell cs id) (found cs n e)
