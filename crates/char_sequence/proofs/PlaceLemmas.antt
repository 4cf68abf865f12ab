-- Places: what stands before them, what stands from them on, and where the next one is.
use Rattle.std.proofs.Common.{◌≡◌, ℕ, zero, suc, ◌+◌, ◌-◌, ◌≤◌, ◌<◌, List, [], ◌∷◌, ◌++◌, length, take, drop, get_or, Some, None, refl, sym, ◌∙◌, ap}
use Rattle.std.proofs.Common.{append_assoc, append-nil, add-one, arith}
use Rattle.std.specs.List.{slice_get}
use Rattle.std.proofs.Math.ListN.{drop_of_length-le}
use Rattle.std.proofs.lemmas.List.{drop_more, take_more, take-append-drop}
use Rattle.std.proofs.lemmas.Option.{slice_get_within, get_or_from_slice_get}
use Rattle.char_sequence.specs.declared.cell.Cell.{Cell}
use Rattle.char_sequence.specs.declared.place.Place.{Place}
use Rattle.char_sequence.specs.Chunks.{AreSized, ChunkCells, IsPlace, before, cell_at, cells_of, from}
use Rattle.char_sequence.specs.Reading.{Passes}

-- a list that is cut behind one of its items
pub cut_behind : {A : Type 0} (xs : List A) (j : ℕ) (x : A) → slice_get xs j ≡ Some x
    → (drop j xs ≡ x ∷ drop (j + 1) xs) × (take (j + 1) xs ≡ take j xs ++ x ∷ [])
cut_behind xs j x is =
    let within : j < length xs = slice_get_within xs j x is in
    let same : get_or xs j x ≡ x = get_or_from_slice_get xs j x x is in
    (drop_more xs j x within ∙ ap (λ y. y ∷ drop (j + 1) xs) same, take_more xs j x within ∙ ap (λ y. take j xs ++ y ∷ []) same)

-- no item at an index is no item from there on
past_end : {A : Type 0} (xs : List A) (j : ℕ) → slice_get xs j ≡ None → length xs ≤ j
past_end [] j none = omega arith
past_end (x ∷ xs) zero none = absurd (cc)
past_end (x ∷ xs) (suc j) none = let rest = past_end xs j none in omega arith

all_taken : {A : Type 0} (xs : List A) (j : ℕ) → length xs ≤ j → take j xs ≡ xs
all_taken [] zero past = refl
all_taken [] (suc j) past = refl
all_taken (x ∷ xs) zero past = absurd (omega arith)
all_taken (x ∷ xs) (suc j) past = ap (λ rest. x ∷ rest) (all_taken xs j (omega arith))

-- a cell that is read stands in its chunk
pub in_its_chunk : (held : ChunkCells) (i j : ℕ) (c : Cell) → cell_at held i j ≡ Some c → (i < length held) × (slice_get (get_or held i []) j ≡ Some c)
in_its_chunk [] i j c is = absurd (cc)
in_its_chunk (k ∷ ks) zero j c is = (omega arith, is)
in_its_chunk (k ∷ ks) (suc i) j c is = let rest = in_its_chunk ks i j c is in (omega arith, rest.1)

-- the cell behind a place comes first from there on
pub from_cell : (held : ChunkCells) (i j : ℕ) (c : Cell) → cell_at held i j ≡ Some c → from held i j ≡ c ∷ from held i (j + 1)
from_cell held i j c is =
    ap (λ ds. ds ++ cells_of (drop (i + 1) held)) (cut_behind (get_or held i []) j c (in_its_chunk held i j c is).1).0

-- and stands last before the place behind it
pub before_cell : (held : ChunkCells) (i j : ℕ) (c : Cell) → cell_at held i j ≡ Some c → before held i (j + 1) ≡ before held i j ++ c ∷ []
before_cell held i j c is =
    ap (λ ds. cells_of (take i held) ++ ds) (cut_behind (get_or held i []) j c (in_its_chunk held i j c is).1).1
    ∙ sym (append_assoc (cells_of (take i held)) (take j (get_or held i [])) (c ∷ []))

-- what stands before a place and what stands from it on are all
pub joined : (held : ChunkCells) (i j : ℕ) → before held i j ++ from held i j ≡ cells_of held
joined [] zero zero = refl
joined [] zero (suc j) = refl
joined [] (suc i) zero = rw add-one refl
joined [] (suc i) (suc j) = rw add-one refl
joined (k ∷ ks) zero j = sym (append_assoc (take j k) (drop j k) (cells_of ks)) ∙ ap (λ d. d ++ cells_of ks) (take-append-drop j k)
joined (k ∷ ks) (suc i) j =
    let rest = joined ks i j in
    rw (add-one (suc i), ← rest, add-one i) (simp append_assoc)

-- the chunks from one on begin with it
pub chunks_from : (held : ChunkCells) (i : ℕ) → cells_of (drop i held) ≡ get_or held i [] ++ cells_of (drop (i + 1) held)
chunks_from [] zero = refl
chunks_from [] (suc i) = rw add-one refl
chunks_from (k ∷ ks) zero = refl
chunks_from (k ∷ ks) (suc i) = rw (add-one (suc i)) (chunks_from ks i ∙ rw add-one refl)

-- the chunks up to one end with it
pub chunks_to : (held : ChunkCells) (i : ℕ) → cells_of (take (i + 1) held) ≡ cells_of (take i held) ++ get_or held i []
chunks_to [] zero = refl
chunks_to [] (suc i) = rw add-one refl
chunks_to (k ∷ ks) zero = append-nil k
chunks_to (k ∷ ks) (suc i) =
    let rest = chunks_to ks i in
    rw (add-one (suc i)) (ap (λ r. k ++ r) (rw add-one at rest) ∙ sym (append_assoc k (cells_of (take i ks)) (get_or ks i [])))

-- where a chunk ends the next one begins
pub from_next : (held : ChunkCells) (i j : ℕ) → length (get_or held i []) ≤ j → from held i j ≡ from held (i + 1) 0
from_next held i j end =
    ap (λ ds. ds ++ cells_of (drop (i + 1) held)) (drop_of_length-le (get_or held i []) end) ∙ chunks_from held (i + 1)

pub before_next : (held : ChunkCells) (i j : ℕ) → length (get_or held i []) ≤ j → before held i j ≡ before held (i + 1) 0
before_next held i j end =
    ap (λ ds. cells_of (take i held) ++ ds) (all_taken (get_or held i []) j end)
    ∙ (sym (chunks_to held i) ∙ sym (append-nil (cells_of (take (i + 1) held))))

-- no cell behind a place is the end of its chunk
pub ends_chunk : (held : ChunkCells) (i j : ℕ) → cell_at held i j ≡ None → length (get_or held i []) ≤ j
ends_chunk [] zero j none = omega arith
ends_chunk [] (suc i) j none = omega arith
ends_chunk (k ∷ ks) zero j none = past_end k j none
ends_chunk (k ∷ ks) (suc i) j none = ends_chunk ks i j none

-- no chunk is empty, so that no first cell is no chunk
pub ends_all : (held : ChunkCells) (i : ℕ) → AreSized 1 held → cell_at held i 0 ≡ None → length held ≤ i
ends_all [] i sized none = omega arith
ends_all ([] ∷ ks) zero sized none = absurd (omega (arith, sized.0))
ends_all ((c ∷ k) ∷ ks) zero sized none = absurd (cc)
ends_all (k ∷ ks) (suc i) sized none = let rest = ends_all ks i sized.2 none in omega arith

-- neither a cell behind a place nor one in the next chunk is the end
pub nothing_from : (held : ChunkCells) (i j : ℕ) → AreSized 1 held → cell_at held i j ≡ None → cell_at held (i + 1) 0 ≡ None → from held i j ≡ []
nothing_from held i j sized none none_next =
    let end : length (get_or held i []) ≤ j = ends_chunk held i j none in
    let last : length held ≤ i + 1 = ends_all held (i + 1) sized none_next in
    ap (λ ds. ds ++ cells_of (drop (i + 1) held)) (drop_of_length-le (get_or held i []) end)
    ∙ ap cells_of (drop_of_length-le held last)

-- a chunk has few cells
pub few_in_chunk : (held : ChunkCells) (i : ℕ) → AreSized 1 held → length (get_or held i []) ≤ 512
few_in_chunk [] zero sized = omega arith
few_in_chunk [] (suc i) sized = omega arith
few_in_chunk (k ∷ ks) zero sized = sized.1
few_in_chunk (k ∷ ks) (suc i) sized = few_in_chunk ks i sized.2

-- a place is in a chunk, or the beginning of none
pub chunk_of_place : (held : ChunkCells) (i j : ℕ) → IsPlace held i j → i ≤ length held - 1
chunk_of_place [] i j place = omega (arith, place.0)
chunk_of_place (k ∷ ks) i j place = omega (arith, place.0)

pub is_place : (held : ChunkCells) (i j : ℕ) → i < length held → j ≤ length (get_or held i []) → IsPlace held i j
is_place [] i j within below = absurd (omega arith)
is_place (k ∷ ks) i j within below = (within, below)

-- the place behind a cell
pub place_behind : (held : ChunkCells) (i j : ℕ) (c : Cell) → cell_at held i j ≡ Some c → IsPlace held i (j + 1)
place_behind held i j c is =
    let here = in_its_chunk held i j c is in
    let below : j < length (get_or held i []) = slice_get_within (get_or held i []) j c here.1 in
    is_place held i (j + 1) here.0 (omega arith)

-- the place behind a cell of the same chunk
pub passes_here : (held : ChunkCells) (at : Place) (c : Cell) → cell_at held at.chunk at.at ≡ Some c
    → Passes held at c (record { chunk = at.chunk; at = at.at + 1 })
passes_here held at c is = record {
  place = place_behind held at.chunk at.at c is;
  first = from_cell held at.chunk at.at c is;
  passed = before_cell held at.chunk at.at c is;
}

-- the place behind the first cell of the next chunk
pub passes_next : (held : ChunkCells) (at : Place) (c : Cell) → cell_at held at.chunk at.at ≡ None → cell_at held (at.chunk + 1) 0 ≡ Some c
    → Passes held at c (record { chunk = at.chunk + 1; at = 1 })
passes_next held at c none is =
    let end : length (get_or held at.chunk []) ≤ at.at = ends_chunk held at.chunk at.at none in
    record {
      place = place_behind held (at.chunk + 1) 0 c is;
      first = from_next held at.chunk at.at end ∙ from_cell held (at.chunk + 1) 0 c is;
      passed = before_cell held (at.chunk + 1) 0 c is ∙ ap (λ ds. ds ++ c ∷ []) (sym (before_next held at.chunk at.at end));
    }

-- a place behind a cell can be counted
pub fits_behind : (held : ChunkCells) (i j : ℕ) (c : Cell) → AreSized 1 held → cell_at held i j ≡ Some c → j < 512
fits_behind held i j c sized is =
    let below : j < length (get_or held i []) = slice_get_within (get_or held i []) j c (in_its_chunk held i j c is).1 in
    let few = few_in_chunk held i sized in
    omega arith
