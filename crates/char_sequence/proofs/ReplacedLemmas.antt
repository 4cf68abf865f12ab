-- Chunks one behind the other: what they hold where some stand in place of one, and how many cells each has.
use Rattle.std.proofs.Common.{◌≡◌, ℕ, zero, suc, ◌+◌, ◌≤◌, ◌<◌, ◌^◌, List, [], ◌∷◌, ◌++◌, length, take, drop, get_or, Some}
use Rattle.std.proofs.Common.{refl, sym, ◌∙◌, ap, append_assoc, append-nil, add-one, length-append, arith}
use Rattle.std.specs.Prelude.{slice_get, slice_set}
use Rattle.std.proofs.Math.Seq.{take-nil, drop-nil}
use Rattle.std.proofs.lemmas.Option.{slice_get-get_or, slice_get_within}
use Rattle.std.proofs.lemmas.List.{length-set, get_or_default, set_split, take-append-drop, take_all}
use Rattle.char_sequence.specs.declared.cell.Cell.{Cell}
use Rattle.char_sequence.specs.Chunks.{ChunkCells, cells_of, before, from, cell_at, AreSized, AreChunks, IsPlace}

-- the cells of chunks, and then of more chunks
pub cells_of-append : (xs ys : ChunkCells) → cells_of (xs ++ ys) ≡ cells_of xs ++ cells_of ys
cells_of-append [] ys = refl
cells_of-append (k ∷ ks) ys = ap (λ cs. k ++ cs) (cells_of-append ks ys) ∙ sym (append_assoc k (cells_of ks) (cells_of ys))

-- chunks have their sizes one behind the other
pub sized-append : (least : ℕ) (xs ys : ChunkCells) → AreSized least xs → AreSized least ys → AreSized least (xs ++ ys)
sized-append least [] ys front back = back
sized-append least (k ∷ ks) ys front back = (front.0, front.1, sized-append least ks ys front.2 back)

-- the first of them have
sized-take : (least n : ℕ) (ks : ChunkCells) → AreSized least ks → AreSized least (take n ks)
sized-take least zero ks sized = tt
sized-take least (suc n) [] sized = tt
sized-take least (suc n) (k ∷ ks) sized = (sized.0, sized.1, sized-take least n ks sized.2)

-- and so have the others
sized-drop : (least n : ℕ) (ks : ChunkCells) → AreSized least ks → AreSized least (drop n ks)
sized-drop least zero ks sized = sized
sized-drop least (suc n) [] sized = tt
sized-drop least (suc n) (k ∷ ks) sized = sized-drop least n ks sized.2

-- and each of them
sized_at : (least i : ℕ) (ks : ChunkCells) → AreSized least ks → i < length ks
    → (least ≤ length (get_or ks i [])) × (length (get_or ks i []) ≤ 512)
sized_at least i [] sized inside = absurd (omega arith)
sized_at least zero (k ∷ ks) sized inside = (sized.0, sized.1)
sized_at least (suc i) (k ∷ ks) sized inside = sized_at least i ks sized.2 (omega arith)

-- what has at least 256 cells has one
sized_less : (ks : ChunkCells) → AreSized 256 ks → AreSized 1 ks
sized_less [] sized = tt
sized_less (k ∷ ks) sized = (let many = sized.0 in omega arith, sized.1, sized_less ks sized.2)

-- chunks of at least 256 cells
pub are_halved : (ks : ChunkCells) → AreSized 256 ks → AreChunks ks
are_halved ks sized = record { sized = sized_less ks sized; halved = λ several. sized }

-- one chunk alone
pub are_one : (k : List Cell) → 0 < length k → length k ≤ 512 → AreChunks (k ∷ [])
are_one k some few = record { sized = (omega arith, few, tt); halved = λ several. absurd (omega arith) }

-- some chunks in place of one
pub replaced_sized : (held : ChunkCells) (i j : ℕ) (by : ChunkCells) → AreChunks held → IsPlace held i j → AreChunks by
    → (256 ≤ length (get_or held i []) → AreSized 256 by) → AreChunks (take i held ++ (by ++ drop (i + 1) held))
replaced_sized [] i j by are place new large =
    rw (take-nil {A = List Cell} i, drop-nil {A = List Cell} (i + 1), append-nil by) new
replaced_sized (k ∷ []) i j by are place new large =
    let inside = place.0 in
    let first : i ≡ 0 = omega arith in
    rw (first, append-nil by) new
replaced_sized (k ∷ l ∷ ks) i j by are place new large =
    let sized = are.halved (omega arith) in
    let many = (sized_at 256 i (k ∷ l ∷ ks) sized place.0).0 in
    let back = sized-append 256 by (drop (i + 1) (k ∷ l ∷ ks)) (large many) (sized-drop 256 (i + 1) (k ∷ l ∷ ks) sized) in
    are_halved _ (sized-append 256 (take i (k ∷ l ∷ ks)) _ (sized-take 256 i (k ∷ l ∷ ks) sized) back)

-- a run between two others, in chunks that stand in place of one
pub replaced_cells : (held : ChunkCells) (i : ℕ) (by : ChunkCells) (front run back : List Cell) → cells_of by ≡ front ++ (run ++ back)
    → cells_of (take i held ++ (by ++ drop (i + 1) held))
    ≡ (cells_of (take i held) ++ front) ++ (run ++ (back ++ cells_of (drop (i + 1) held)))
replaced_cells held i by front run back joined =
    let behind = cells_of (drop (i + 1) held) in
    cells_of-append (take i held) (by ++ drop (i + 1) held)
    ∙ (ap (λ cs. cells_of (take i held) ++ cs) (cells_of-append by (drop (i + 1) held)
    ∙ (ap (λ cs. cs ++ behind) joined
    ∙ (append_assoc front (run ++ back) behind ∙ ap (λ cs. front ++ cs) (append_assoc run back behind))))
    ∙ sym (append_assoc (cells_of (take i held)) front (run ++ (back ++ behind))))

-- before the first cell of a chunk is a place
pub place_of_chunk : (held : ChunkCells) (i : ℕ) → i < length held → IsPlace held i 0
place_of_chunk [] i inside = absurd (omega arith)
place_of_chunk (k ∷ ks) i inside = (inside, omega arith)

-- one chunk in place of one
set_is : (held : ChunkCells) (i : ℕ) (k : List Cell) → i < length held → slice_set held i k ≡ take i held ++ ((k ∷ []) ++ drop (i + 1) held)
set_is held i k inside = rw (add-one) (set_split held i k inside)

-- one chunk that has at least as many cells, in place of one
pub set_sized : (held : ChunkCells) (i : ℕ) (k : List Cell) → AreChunks held → i < length held → 0 < length k → length k ≤ 512
    → length (get_or held i []) ≤ length k → AreChunks (slice_set held i k)
set_sized held i k are inside some few more =
    rw (set_is held i k inside)
    (replaced_sized held i 0 (k ∷ []) are (place_of_chunk held i inside) (are_one k some few)
    (λ many. (omega arith, few, tt)))

-- a run between two others, in a chunk that stands in place of one
pub set_cells : (held : ChunkCells) (i : ℕ) (k front run back : List Cell) → i < length held → k ≡ front ++ (run ++ back)
    → cells_of (slice_set held i k) ≡ (cells_of (take i held) ++ front) ++ (run ++ (back ++ cells_of (drop (i + 1) held)))
set_cells held i k front run back inside joined =
    rw (set_is held i k inside) (replaced_cells held i (k ∷ []) front run back (append-nil k ∙ joined))

-- a chunk has from 1 to 512 cells
pub chunk_sizes : (held : ChunkCells) (i : ℕ) → AreChunks held → i < length held
    → (1 ≤ length (get_or held i [])) × (length (get_or held i []) ≤ 512)
chunk_sizes held i are inside = sized_at 1 i held are.sized inside

-- a cell of a chunk is the chunk's
pub cell_there : (held : ChunkCells) (i j : ℕ) (c : Cell) → i < length held → cell_at held i j ≡ Some c
    → slice_get (get_or held i []) j ≡ Some c
cell_there held i j c inside there = let chunk = slice_get-get_or held i [] inside in rw chunk at there

-- a place cuts the cells in two
pub before_from : (held : ChunkCells) (i j : ℕ) → IsPlace held i j → before held i j ++ from held i j ≡ cells_of held
before_from [] i j place = rw (take-nil {A = List Cell} i, drop-nil {A = List Cell} (i + 1), take-nil {A = Cell} j, drop-nil {A = Cell} j) refl
before_from (k ∷ ks) i j place = rw (add-one) (cut (k ∷ ks) i j place.0)
  where
    cut : (hs : ChunkCells) (n at : ℕ) → n < length hs → before hs n at ++ (drop at (get_or hs n []) ++ cells_of (drop (suc n) hs)) ≡ cells_of hs
    cut [] n at inside = absurd (omega arith)
    cut (h ∷ hs) zero at inside =
        sym (append_assoc (take at h) (drop at h) (cells_of hs)) ∙ ap (λ cs. cs ++ cells_of hs) (take-append-drop at h)
    cut (h ∷ hs) (suc n) at inside =
        let rest = drop at (get_or hs n []) ++ cells_of (drop (suc n) hs) in
        ap (λ cs. cs ++ rest) (append_assoc h (cells_of (take n hs)) (take at (get_or hs n [])))
        ∙ (append_assoc h (before hs n at) rest ∙ ap (λ cs. h ++ cs) (cut hs n at (omega arith)))

-- a cell put into a chunk
pub put_cells : (held : ChunkCells) (i j : ℕ) (k new run : List Cell) (c : Cell) → i < length held → k ≡ get_or held i k
    → new ≡ take j k ++ c ∷ drop j k → run ≡ c ∷ [] → cells_of (slice_set held i new) ≡ before held i j ++ (run ++ from held i j)
put_cells held i j k new run c inside is put one =
    let here : k ≡ get_or held i [] = is ∙ get_or_default held i k [] inside in
    let joined : new ≡ take j (get_or held i []) ++ (run ++ drop j (get_or held i [])) = rw (one, ← here) put in
    set_cells held i new (take j (get_or held i [])) run (drop j (get_or held i [])) inside joined

-- and its size
pub put_sized : (held : ChunkCells) (i j : ℕ) (k new : List Cell) (c : Cell) → AreChunks held → i < length held → k ≡ get_or held i k
    → length (get_or held i []) < 512 → new ≡ take j k ++ c ∷ drop j k → AreChunks (slice_set held i new)
put_sized held i j k new c are inside is room put =
    let here : k ≡ get_or held i [] = is ∙ get_or_default held i k [] inside in
    let long : length new ≡ length (take j k) + suc (length (drop j k)) = ap length put ∙ length-append (take j k) (c ∷ drop j k) in
    let parts = sym (length-append (take j k) (drop j k)) ∙ ap length (take-append-drop j k) in
    let same = ap length here in
    set_sized held i new are inside (omega arith) (omega arith) (omega arith)

-- a cell that became a tombstone in a chunk
pub removed_cells : (held : ChunkCells) (i j : ℕ) (k new : List Cell) (c d : Cell) → i < length held → k ≡ get_or held i k
    → cell_at held i j ≡ Some c → (slice_get k j ≡ Some c → new ≡ slice_set k j d)
    → cells_of (slice_set held i new) ≡ before held i j ++ d ∷ from held i (j + 1)
removed_cells held i j k new c d inside is there removed =
    let here : k ≡ get_or held i [] = is ∙ get_or_default held i k [] inside in
    let at = cell_there held i j c inside there in
    let within : j < length (get_or held i []) = slice_get_within (get_or held i []) j c at in
    let same : new ≡ slice_set (get_or held i []) j d = removed (rw here at) ∙ ap (λ cs. slice_set cs j d) here in
    let joined : new ≡ take j (get_or held i []) ++ ((d ∷ []) ++ drop (j + 1) (get_or held i [])) =
    rw (add-one) (same ∙ set_split (get_or held i []) j d within) in
    set_cells held i new (take j (get_or held i [])) (d ∷ []) (drop (j + 1) (get_or held i [])) inside joined

-- a list of one cell
pub one_cell : (cells : List Cell) (c : Cell) → 1 ≤ length cells → length cells < 2 → c ≡ get_or cells 0 c → cells ≡ c ∷ []
one_cell [] c some few is = absurd (omega arith)
one_cell (x ∷ []) c some few is = ap (λ y. y ∷ []) (sym is)
one_cell (x ∷ y ∷ ys) c some few is = absurd (omega arith)

-- with a run, a chunk has no fewer cells
pub joined_more : (k run : List Cell) (j : ℕ) → length k ≤ length (take j k ++ (run ++ drop j k))
joined_more k run j =
    let long = length-append (take j k) (run ++ drop j k) in
    let back = length-append run (drop j k) in
    let parts = sym (length-append (take j k) (drop j k)) ∙ ap length (take-append-drop j k) in
    omega arith

-- behind the last cell of the last chunk nothing stands, and all stands before
pub end_before : (held : ChunkCells) (n : ℕ) (k : List Cell) → length held ≡ suc n → k ≡ get_or held n k → before held n (length k) ≡ cells_of held
end_before [] n k long is = absurd (omega arith)
end_before (h ∷ []) zero k long is = rw (is, take_all (length h) h (omega arith)) (sym (append-nil h))
end_before (h ∷ []) (suc n) k long is = absurd (omega arith)
end_before (h ∷ l ∷ ks) zero k long is = absurd (omega arith)
end_before (h ∷ l ∷ ks) (suc n) k long is =
    append_assoc h (cells_of (take n (l ∷ ks))) (take (length k) (get_or (l ∷ ks) n []))
    ∙ ap (λ cs. h ++ cs) (end_before (l ∷ ks) n k (omega arith) is)

-- a chunk and a run, joined and cut anew, in place of the chunk
pub run_cells : (held : ChunkCells) (i j : ℕ) (by now : ChunkCells) (k all run : List Cell) → k ≡ get_or held i []
    → all ≡ take j k ++ (run ++ drop j k) → cells_of by ≡ all → now ≡ take i held ++ (by ++ drop (i + 1) held)
    → cells_of now ≡ before held i j ++ (run ++ from held i j)
run_cells held i j by now k all run is joined cut put =
    let here : cells_of by ≡ take j (get_or held i []) ++ (run ++ drop j (get_or held i [])) = rw (← is) (cut ∙ joined) in
    rw put (replaced_cells held i by (take j (get_or held i [])) run (drop j (get_or held i [])) here)

-- and the sizes
pub run_sized : (held : ChunkCells) (i j : ℕ) (by now : ChunkCells) (k all run : List Cell) → AreChunks held → IsPlace held i j → k ≡ get_or held i []
    → all ≡ take j k ++ (run ++ drop j k) → AreChunks by → (256 ≤ length all → AreSized 256 by)
    → now ≡ take i held ++ (by ++ drop (i + 1) held) → AreChunks now
run_sized held i j by now k all run are place is joined new large put =
    let more = joined_more k run j in
    let same = ap length is in
    let long = ap length joined in
    rw put (replaced_sized held i j by are place new (λ many. large (omega arith)))

-- a chunk in place of another one leaves as many
pub few_set : (held : ChunkCells) (i : ℕ) (k : List Cell) → length held ≤ 2 ^ 54 → length (slice_set held i k) ≤ 2 ^ 54
few_set held i k few = rw (length-set held i k) few

-- several in place of one add no more than themselves
pub few_replaced : (held by new : ChunkCells) (i : ℕ) → new ≡ take i held ++ (by ++ drop (i + 1) held) → length held + length by ≤ 2 ^ 54
    → length new ≤ 2 ^ 54
few_replaced held by new i is few =
    let long : length new ≡ length (take i held) + (length by + length (drop (i + 1) held)) =
    ap length is ∙ (length-append (take i held) (by ++ drop (i + 1) held) ∙ ap (λ n. length (take i held) + n) (length-append by (drop (i + 1) held))) in
    let parts : length (take i held) + length (drop (i + 1) held) ≤ length held = parts_within held i in
    omega arith
  where
    parts_within : (ks : ChunkCells) (i : ℕ) → length (take i ks) + length (drop (i + 1) ks) ≤ length ks
    parts_within [] zero = omega arith
    parts_within [] (suc i) = rw (add-one (suc i)) (omega arith)
    parts_within (k ∷ ks) zero = omega arith
    parts_within (k ∷ ks) (suc i) = let rest = parts_within ks i in rw (add-one (suc i)) (let more = rw add-one at rest in omega arith)
