-- Chunks that are read one after another.
use Rattle.std.proofs.Common.{◌≡◌, ℕ, zero, suc, ◌+◌, ◌<◌, ◌≤◌, List, [], ◌∷◌, ◌++◌, length, take, Some, None, refl, ap, arith, length-append}
use Rattle.std.specs.Prelude.{slice_get}
use Rattle.char_sequence.specs.declared.cell.Cell.{Cell}
use Rattle.char_sequence.specs.declared.chunk_size.ChunkSize.{ChunkSize}
use Rattle.char_sequence.specs.Chunks.{AreSized, ChunkCells, cell_at, cells_of, size_at}
use Rattle.span_flatten.specs.Reading.{offset}

-- a chunk that is there is one of them
pub chunk_within : (held : ChunkCells) (i : ℕ) (size : ChunkSize) → size_at held i ≡ Some size → i < length held
chunk_within [] i size there = absurd (cc)
chunk_within (k ∷ ks) zero size there = omega arith
chunk_within (k ∷ ks) (suc i) size there = let rest = chunk_within ks i size there in omega arith

-- one more chunk
pub offset_more : (held : ChunkCells) (i : ℕ) (size : ChunkSize) → size_at held i ≡ Some size → offset held (suc i) ≡ offset held i + size.cells
offset_more [] i size there = absurd (cc)
offset_more (k ∷ ks) zero size there =
    let same : length k ≡ size.cells = cc in omega (arith, length-append k [], same)
offset_more (k ∷ ks) (suc i) size there =
    let rest = offset_more ks i size there in
    omega (arith, rest, length-append k (cells_of (take (suc i) ks)), length-append k (cells_of (take i ks)))

-- past the last chunk stand all cells
pub offset_all : (held : ChunkCells) (i : ℕ) → size_at held i ≡ None → take i held ≡ held
offset_all [] zero none = refl
offset_all [] (suc i) none = refl
offset_all (k ∷ ks) zero none = absurd (cc)
offset_all (k ∷ ks) (suc i) none = ap (λ rest. k ∷ rest) (offset_all ks i none)

get_front : (ds cs : List Cell) (j : ℕ) (c : Cell) → slice_get ds j ≡ Some c → slice_get (ds ++ cs) j ≡ Some c
get_front [] cs j c there = absurd (cc)
get_front (d ∷ ds) cs zero c there = there
get_front (d ∷ ds) cs (suc j) c there = get_front ds cs j c there

get_back : (ds cs : List Cell) (j : ℕ) (c : Cell) → slice_get cs j ≡ Some c → slice_get (ds ++ cs) (length ds + j) ≡ Some c
get_back [] cs j c there = let same : 0 + j ≡ j = omega arith in rw same there
get_back (d ∷ ds) cs j c there =
    let same : suc (length ds) + j ≡ suc (length ds + j) = omega arith in rw same (get_back ds cs j c there)

-- a cell of a chunk stands among all cells
pub cell_there : (held : ChunkCells) (i j : ℕ) (c : Cell) → cell_at held i j ≡ Some c → slice_get (cells_of held) (offset held i + j) ≡ Some c
cell_there [] i j c there = absurd (cc)
cell_there (k ∷ ks) zero j c there =
    let same : 0 + j ≡ j = omega arith in rw same (get_front k (cells_of ks) j c there)
cell_there (k ∷ ks) (suc i) j c there =
    let same : length (k ++ cells_of (take i ks)) + j ≡ length k + (offset ks i + j) = omega (arith, length-append k (cells_of (take i ks))) in
    rw same (get_back k (cells_of ks) (offset ks i + j) c (cell_there ks i j c there))

get_within : (ds : List Cell) (j : ℕ) → slice_get ds j ≡ None → j < length ds → ⊥
get_within [] j none within = omega arith
get_within (d ∷ ds) zero none within = cc
get_within (d ∷ ds) (suc j) none within = get_within ds j none (omega arith)

-- each cell that a chunk's size counts is there
pub cell_within : (held : ChunkCells) (i j : ℕ) (size : ChunkSize) → size_at held i ≡ Some size → cell_at held i j ≡ None → j < size.cells → ⊥
cell_within [] i j size there none within = absurd (cc)
cell_within (k ∷ ks) zero j size there none within =
    let same : length k ≡ size.cells = cc in get_within k j none (omega arith)
cell_within (k ∷ ks) (suc i) j size there none within = cell_within ks i j size there none within

-- those before a chunk are some of all
pub offset_within : (held : ChunkCells) (i : ℕ) → offset held i ≤ length (cells_of held)
offset_within [] zero = omega arith
offset_within [] (suc i) = omega arith
offset_within (k ∷ ks) zero = omega arith
offset_within (k ∷ ks) (suc i) =
    let rest = offset_within ks i in omega (arith, rest, length-append k (cells_of (take i ks)), length-append k (cells_of ks))

-- no chunk is empty
pub chunks_few : (held : ChunkCells) (i : ℕ) → AreSized 1 held → i ≤ length held → i ≤ offset held i
chunks_few [] i sized within = omega arith
chunks_few (k ∷ ks) zero sized within = omega arith
chunks_few (k ∷ ks) (suc i) sized within =
    let rest = chunks_few ks i sized.2 (omega arith) in
    let some = sized.0 in
    omega (arith, rest, some, length-append k (cells_of (take i ks)))
