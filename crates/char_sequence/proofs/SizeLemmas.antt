-- Sizes of chunks.
use Rattle.std.proofs.Common.{◌≡◌, ℕ, zero, suc, ◌+◌, ◌-◌, ◌*◌, ◌/◌, ◌≤◌, ◌<◌, ◌^◌, inl, inr, [], ◌∷◌, length, take, drop, get_or, Some, None, refl, ◌∙◌}
use Rattle.std.proofs.Common.{ap, arith}
use Rattle.std.proofs.lemmas.Bool.{cases_lt}
use Rattle.std.proofs.lemmas.List.{length-append, length-take-le}
use Rattle.std.proofs.Math.ListN.{drop_of_length-le}
use Rattle.char_sequence.specs.declared.chunk_size.ChunkSize.{ChunkSize}
use Rattle.char_sequence.specs.Cells.{shown, shown_at}
use Rattle.char_sequence.specs.Chunks.{AreChunks, AreSized, ChunkCells, IsPlace, before, cells_of, size_at}
use Rattle.char_sequence.proofs.PlaceLemmas.{chunks_from, chunks_to}
use Rattle.char_sequence.proofs.ReadLemmas.{shown_past}

-- a size that is read is that of its chunk
pub size_read : (held : ChunkCells) (i : ℕ) (size : ChunkSize) → size_at held i ≡ Some size
    → (i < length held) × (size.cells ≡ length (get_or held i [])) × (size.shown ≡ length (shown (get_or held i [])))
size_read [] i size is = absurd (cc)
size_read (k ∷ ks) zero size is = (omega arith, cc, cc)
size_read (k ∷ ks) (suc i) size is = let rest = size_read ks i size is in (omega arith, rest.1, rest.2)

-- behind a chunk that is read there may be one more, and it can be counted
pub next_chunk : (held : ChunkCells) (i : ℕ) (size : ChunkSize) → length held ≤ 2 ^ 54 → size_at held i ≡ Some size
    → (i + 1 ≤ length held) × (i + 1 < 2 ^ 64)
next_chunk held i size many is = let here = (size_read held i size is).0 in (omega arith, omega arith)

-- none is read past the last chunk
pub none_read : (held : ChunkCells) (i : ℕ) → size_at held i ≡ None → length held ≤ i
none_read [] i none = omega arith
none_read (k ∷ ks) zero none = absurd (cc)
none_read (k ∷ ks) (suc i) none = let rest = none_read ks i none in omega arith

-- chunks of at least 256 cells
pub many_cells : (held : ChunkCells) → AreSized 256 held → 256 * length held ≤ length (cells_of held)
many_cells [] sized = omega arith
many_cells (k ∷ ks) sized =
    let rest = many_cells ks sized.2 in
    let here = sized.0 in
    let long = length-append k (cells_of ks) in
    omega arith

-- how many chunks there are at the most
pub few_chunks : (held : ChunkCells) → AreChunks held → length held ≤ 1 + length (cells_of held) / 256
few_chunks held chunks = elim (cases_lt 1 (length held)) [
  | inl several ↦ let many = many_cells held (chunks.halved several) in omega arith
  | inr one ↦ omega arith
]

-- where a reader sees at most n cells of a chunk, the n-th from there on is behind it
pub past_chunk : (held : ChunkCells) (i n : ℕ) → length (shown (get_or held i [])) ≤ n
    → shown_at (cells_of (drop i held)) n ≡ shown_at (cells_of (drop (i + 1) held)) (n - length (shown (get_or held i [])))
past_chunk held i n past =
    ap (λ cs. shown_at cs n) (chunks_from held i) ∙ shown_past (get_or held i []) (cells_of (drop (i + 1) held)) n past

-- past the last chunk there is nothing
pub past_all : (held : ChunkCells) (i : ℕ) → length held ≤ i → cells_of (drop i held) ≡ []
past_all held i past = ap cells_of (drop_of_length-le held past)

-- how many cells the chunks up to and with one have
pub long_to : (held : ChunkCells) (i : ℕ) → length (cells_of (take (i + 1) held)) ≡ length (cells_of (take i held)) + length (get_or held i [])
long_to held i = ap length (chunks_to held i) ∙ length-append (cells_of (take i held)) (get_or held i [])

-- the first i chunks have few cells
pub few_to : (held : ChunkCells) (i : ℕ) → AreSized 1 held → length (cells_of (take i held)) ≤ 512 * i
few_to held zero sized = omega arith
few_to [] (suc i) sized = omega arith
few_to (k ∷ ks) (suc i) sized =
    let rest = few_to ks i sized.2 in
    let here = sized.1 in
    let long = length-append k (cells_of (take i ks)) in
    omega arith

-- a place is in a chunk, and within it; or the beginning of none
pub within_place : (held : ChunkCells) (i j : ℕ) → IsPlace held i j → (i ≤ length held) × (j ≤ length (get_or held i []))
within_place [] i j place = (omega (arith, place.0), omega (arith, place.1))
within_place (k ∷ ks) i j place = (omega (arith, place.0), place.1)

-- how many cells stand before a place
pub long_before : (held : ChunkCells) (i j : ℕ) → IsPlace held i j → length (before held i j) ≡ j + length (cells_of (take i held))
long_before held i j place =
    let within = within_place held i j place in
    let own : length (take j (get_or held i [])) ≡ j = length-take-le j (get_or held i []) within.1 in
    let all = length-append (cells_of (take i held)) (take j (get_or held i [])) in
    omega arith

-- past the last chunk there are no cells
pub none_long : (held : ChunkCells) (i : ℕ) → size_at held i ≡ None → length (get_or held i []) ≡ 0
none_long [] zero none = refl
none_long [] (suc i) none = refl
none_long (k ∷ ks) zero none = absurd (cc)
none_long (k ∷ ks) (suc i) none = none_long ks i none
