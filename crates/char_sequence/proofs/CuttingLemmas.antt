-- Cells that are cut into chunks of 256, and the last of up to 512.
use Rattle.std.proofs.Common.{◌≡◌, ℕ, zero, suc, ◌+◌, ◌-◌, ◌*◌, ◌≤◌, ◌<◌, List, [], ◌∷◌, ◌++◌, length, take, drop}
use Rattle.std.proofs.Common.{refl, sym, ◌∙◌, ap, append_assoc, append-nil, length-drop, map-id, arith}
use Rattle.std.specs.Prelude.{slice_range}
use Rattle.std.proofs.lemmas.List.{length-take-le, drop_all}
use Rattle.std.proofs.lemmas.List.Folds.{drop_split}
use Rattle.std.specs.Iterator.{Drains}
use Rattle.std.specs.List.{splice}
use Rattle.std.specs.Vec.Iter.{into_iter_items, into_iter_len, into_iter_steps}
use Rattle.std.specs.declared.vec.IntoIter.{IntoIter}
use Rattle.std.proofs.lemmas.Iterator.{items_from_drains}
use Rattle.std.proofs.lemmas.Iterator.Adapters.{YieldsList-from_vec}
use Rattle.char_sequence.specs.declared.cell.Cell.{Cell}
use Rattle.char_sequence.specs.Chunks.{ChunkCells, cells_of, AreSized, AreChunks}
use Rattle.char_sequence.proofs.ReplacedLemmas.{cells_of-append, sized-append, are_halved, are_one}

-- a part of a list has as many cells as its ends are apart
pub length_part : (cells : List Cell) (from to : ℕ) → from ≤ to → to ≤ length cells → length (slice_range cells from to) ≡ to - from
length_part cells from to rising inside =
    let left = length-drop from cells in
    length-take-le (to - from) (drop from cells) (omega arith)

-- the next 256 cells are a chunk more
pub more_cells : (cells : List Cell) (ks now : ChunkCells) (from to : ℕ) (k : List Cell) → now ≡ ks ++ k ∷ [] → k ≡ slice_range cells from to
    → from ≤ to → cells_of ks ++ drop from cells ≡ cells → cells_of now ++ drop to cells ≡ cells
more_cells cells ks now from to k more is rising cut =
    let split = drop_split cells from to rising in
    rw (more, cells_of-append ks (k ∷ []), append-nil k)
    (append_assoc (cells_of ks) k (drop to cells)
    ∙ (ap (λ cs. cells_of ks ++ cs) (ap (λ cs. cs ++ drop to cells) is ∙ sym split) ∙ cut))

-- and has its size
pub more_sized : (cells : List Cell) (ks now : ChunkCells) (from to : ℕ) (k : List Cell) → now ≡ ks ++ k ∷ [] → k ≡ slice_range cells from to
    → to ≡ from + 256 → to ≤ length cells → AreSized 256 ks → AreSized 256 now
more_sized cells ks now from to k more is apart inside sized =
    let long : length k ≡ to - from = ap length is ∙ length_part cells from to (omega arith) inside in
    rw more (sized-append 256 ks (k ∷ []) sized (omega arith, omega arith, tt))

-- behind chunks of 256 cells each one more, of at least 256
pub last_sized : (ks now : ChunkCells) (k : List Cell) → now ≡ ks ++ k ∷ [] → AreSized 256 ks → 256 ≤ length k → length k ≤ 512 → AreSized 256 now
last_sized ks now k more sized many few = rw more (sized-append 256 ks (k ∷ []) sized (many, few, tt))

-- where there was none before, it may have fewer
pub last_are : (ks now : ChunkCells) (k : List Cell) (from : ℕ) → now ≡ ks ++ k ∷ [] → AreSized 256 ks → from ≡ 256 * length ks
    → (0 < from → 256 ≤ length k) → 0 < length k → length k ≤ 512 → AreChunks now
last_are [] now k from more sized count left some few = rw more (are_one k some few)
last_are (h ∷ hs) now k from more sized count left some few =
    are_halved now (last_sized (h ∷ hs) now k more sized (left (omega arith)) few)

-- the last of them ends where the cells end
pub last_cells : (cells : List Cell) (ks now : ChunkCells) (from : ℕ) (k : List Cell) → now ≡ ks ++ k ∷ []
    → k ≡ slice_range cells from (length cells) → from ≤ length cells → cells_of ks ++ drop from cells ≡ cells → cells_of now ≡ cells
last_cells cells ks now from k more is inside cut =
    let none = drop_all (length cells) cells (omega arith) in
    let all = more_cells cells ks now from (length cells) k more is inside cut in
    sym (append-nil (cells_of now)) ∙ (rw none at all)

-- what comes out of a list that was taken apart is the list
pub drained : {Z : Type 0} (s : IntoIter (List Cell) Z) (xs all : ChunkCells) → into_iter_items s ≡ all → into_iter_len s ≡ length all
    → Drains into_iter_steps s xs → xs ≡ all
drained s xs all items len drains =
    sym (map-id xs) ∙ items_from_drains xs (drains.1.0, drains.1.1, λ _. (drains.0, drains.1.2)) (YieldsList-from_vec all items len)

-- chunks that stand in place of one, or behind all
pub spliced : (old now by xs : ChunkCells) (i end : ℕ) → xs ≡ by → now ≡ splice old i end xs → drop end old ≡ drop (i + 1) old
    → now ≡ take i old ++ (by ++ drop (i + 1) old)
spliced old now by xs i end all put same = put ∙ (rw (all, same) refl)

-- behind all there is nothing
pub past_all : (old : ChunkCells) (i : ℕ) → length old ≤ i → drop i old ≡ drop (i + 1) old
past_all old i past = drop_all i old past ∙ sym (drop_all (i + 1) old (omega arith))

-- where there are at least 256 cells, at least 256 are left
pub large_left : (from all : ℕ) → 256 ≤ all → (0 < from → 256 < all - from) → 256 ≤ all - from
large_left zero all many left = omega arith
large_left (suc n) all many left = let more = left (omega arith) in omega arith
