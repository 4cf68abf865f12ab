-- How many cells of chunks a reader sees, where one of them changes, or some stand in place of one.
use Rattle.std.proofs.Common.{◌≡◌, ℕ, ◌+◌, ◌-◌, ◌*◌, ◌≤◌, ◌<◌, ◌^◌, not, List, [], ◌∷◌, ◌++◌, length, get_or, refl, sym, ◌∙◌, ap, arith}
use Rattle.std.specs.Prelude.{slice_set, count_by}
use Rattle.std.proofs.lemmas.List.Sums.{count_by-le-length, get_or-le-sum_by, length-filter, sum_by-cons, sum_by-set, sum_by_push}
use Rattle.char_sequence.specs.declared.cell.Cell.{Cell}
use Rattle.char_sequence.specs.Cells.{shown}
use Rattle.char_sequence.specs.Chunks.{AreSized, ChunkCells, IsPlace, before, cells_of, from}
use Rattle.char_sequence.specs.Sums.{seen, seen_in}
use Rattle.char_sequence.proofs.ChunkLemmas.{shown_both}
use Rattle.char_sequence.proofs.ReplacedLemmas.{before_from}

-- of all chunks a reader sees what it sees of their cells
pub seen_all : (held : ChunkCells) → seen held ≡ length (shown (cells_of held))
seen_all [] = refl
seen_all (k ∷ ks) = sum_by-cons seen_in k ks ∙ (ap (λ n. length (shown k) + n) (seen_all ks) ∙ sym (shown_both k (cells_of ks)))

-- a reader sees at most all cells of a list
pub seen_few : (cells : List Cell) → length (shown cells) ≤ length cells
seen_few cells =
    let most = count_by-le-length (λ (c : Cell). not c.is_removed) cells in
    let same = length-filter (λ (c : Cell). not c.is_removed) cells in
    omega arith

-- and so of chunks
pub seen_most : (held : ChunkCells) → AreSized 1 held → seen held ≤ 512 * length held
seen_most [] sized = omega arith
seen_most (k ∷ ks) sized =
    let rest = seen_most ks sized.2 in
    let here = sized.1 in
    let few = seen_few k in
    let all = sum_by-cons seen_in k ks in
    omega arith

-- of one chunk it sees no more than of all
pub seen_part : (held : ChunkCells) (i : ℕ) (k : List Cell) → i < length held → k ≡ get_or held i k → seen_in k ≤ seen held
seen_part held i k inside is =
    let part = get_or-le-sum_by seen_in held i k inside in
    let same = ap seen_in is in
    omega arith

-- with another chunk in place of one, its count stands in place of the old one's
pub seen_set : (held : ChunkCells) (i : ℕ) (k new : List Cell) → i < length held → k ≡ get_or held i k
    → seen (slice_set held i new) ≡ seen held - seen_in k + seen_in new
seen_set held i k new inside is =
    let moved = sum_by-set seen_in held i new k inside in
    let part = seen_part held i k inside is in
    let same = ap seen_in is in
    omega arith

-- with a run more, its count comes to that of the others
pub seen_run : (held now : ChunkCells) (i j : ℕ) (run : List Cell) → IsPlace held i j → cells_of now ≡ before held i j ++ (run ++ from held i j)
    → seen now ≡ seen held + count_by (λ c. not c.is_removed) run
seen_run held now i j run place put =
    let all = ap (λ cs. length (shown cs)) put in
    let front = shown_both (before held i j) (run ++ from held i j) in
    let back = shown_both run (from held i j) in
    let both = shown_both (before held i j) (from held i j) in
    let old = ap (λ cs. length (shown cs)) (before_from held i j place) in
    let counted = length-filter (λ (c : Cell). not c.is_removed) run in
    let new_is = seen_all now in
    let old_is = seen_all held in
    omega arith

-- so a count of all that takes the old chunk's count away and the new one's in is right
pub counted_set : (held : ChunkCells) (i shown before after : ℕ) (k new : List Cell) → i < length held → k ≡ get_or held i k → shown ≡ seen held
    → before ≡ seen_in k → after ≡ seen_in new → shown - before + after ≡ seen (slice_set held i new)
counted_set held i shown before after k new inside is all old now = let set = seen_set held i k new inside is in omega arith

-- and one that adds those of a run
pub counted_run : (held now : ChunkCells) (i j shown more : ℕ) (run : List Cell) → IsPlace held i j
    → cells_of now ≡ before held i j ++ (run ++ from held i j) → shown ≡ seen held → more ≡ count_by (λ c. not c.is_removed) run → shown + more ≡ seen now
counted_run held now i j shown more run place put all run_is = let new = seen_run held now i j run place put in omega arith

-- and one that adds those of a chunk that came behind all others
pub counted_pushed : (held now : ChunkCells) (k : List Cell) (shown more : ℕ) → now ≡ held ++ k ∷ [] → shown ≡ seen held → more ≡ seen_in k
    → shown + more ≡ seen now
counted_pushed held now k shown more is_now all own =
    let both = ap seen is_now in
    let sum = sum_by_push seen_in held k in
    omega arith

-- a count can be kept, also while a part of it is changed
pub fits_set : (held : ChunkCells) (shown before after : ℕ) → AreSized 1 held → length held ≤ 2 ^ 54 → shown ≡ seen held → after ≤ 512
    → shown - before + after < 2 ^ 64
fits_set held shown before after sized many all few = let most = seen_most held sized in omega arith

pub fits_run : (now : ChunkCells) (shown more : ℕ) → AreSized 1 now → length now ≤ 2 ^ 54 → shown + more ≡ seen now → shown + more < 2 ^ 64
fits_run now shown more sized many all = let most = seen_most now sized in omega arith
