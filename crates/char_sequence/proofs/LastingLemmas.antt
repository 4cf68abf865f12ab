-- How many cells before a place a reader sees, and which character of the walk stands there.
use Rattle.std.proofs.Common.{inl, inr, ◌/◌, ◌≡◌, ℕ, ◌+◌, ◌*◌, ◌≤◌, ◌<◌, Bool, true, false, not, if◌then◌else◌, List, [], ◌∷◌, length, take}
use Rattle.std.proofs.Common.{drop, get_or, filter, Some, None, refl, sym, ◌∙◌, ap, arith}
use Rattle.std.proofs.Math.Seq.{take-add, take-append_seam, take-length}
use Rattle.std.proofs.lemmas.Bool.{cases_lt}
use Rattle.std.proofs.lemmas.List.{take_more, take-map, length-append, length-map, length-take-le}
use Rattle.std.proofs.lemmas.List.Sums.{sum_by-append, sum_by-take-le, sum_by_push}
use Rattle.op_ids.specs.Id.{Id}
use Rattle.op_model.specs.declared.op.Op.{Op}
use Rattle.op_model.specs.declared.anchor.Anchor.TheVariants.{Before, After}
use Rattle.op_model.specs.declared.lasting.Lasting.TheVariants.{Beside}
use Rattle.op_model.specs.Lasting.{at_of, seen_of}
use Rattle.op_model.specs.Places.{index_of}
use Rattle.op_model.specs.Placing.{has_id}
use Rattle.op_model.specs.Text.{is_removed}
use Rattle.op_model.specs.Walk.{walk}
use Rattle.char_sequence.specs.declared.cell.Cell.{Cell}
use Rattle.char_sequence.specs.Cells.{has_cell, shown}
use Rattle.char_sequence.specs.Chunks.{AreChunks, AreSized, ChunkCells, IsPlace, IsPlaceOf, before, cell_at, cells_of, from}
use Rattle.char_sequence.specs.Content.{cell_of, content_of, Holds}
use Rattle.char_sequence.specs.Sums.{seen, seen_in, seen_in_group}
use Rattle.char_sequence.proofs.ChunkLemmas.{shown_both}
use Rattle.char_sequence.proofs.FindLemmas.{has_there}
use Rattle.char_sequence.proofs.GroupSearchLemmas.{several}
use Rattle.char_sequence.proofs.IndexLemmas.{index_there}
use Rattle.char_sequence.proofs.KnownLemmas.{has_cell-map, place_of-content}
use Rattle.char_sequence.proofs.OnceLemmas.{once_content}
use Rattle.char_sequence.proofs.PlaceLemmas.{before_cell, chunk_of_place, cut_behind, few_in_chunk, in_its_chunk, joined}
use Rattle.char_sequence.proofs.ReadLemmas.{shown-map}
use Rattle.char_sequence.proofs.SizeLemmas.{within_place}
use Rattle.char_sequence.proofs.SumLemmas.{seen_all, seen_few, seen_most}

-- ---- counts

-- of the first chunks a reader sees no more than of all, which can be counted
pub few_front : (held : ChunkCells) (n : ℕ) → AreSized 1 held → seen (take n held) ≤ 512 * length held
few_front held n sized =
    let part = sum_by-take-le seen_in held n in
    let most = seen_most held sized in
    omega arith

-- with one chunk more it sees those of that one more
pub front_next : (held : ChunkCells) (i : ℕ) → i < length held → seen (take (i + 1) held) ≡ seen (take i held) + seen_in (get_or held i [])
front_next held i inside = ap seen (take_more held i [] inside) ∙ sum_by_push seen_in (take i held) (get_or held i [])

-- with 64 chunks more those of that group
pub front_group : (held : ChunkCells) (g : ℕ) → seen (take (64 * (g + 1)) held) ≡ seen (take (64 * g) held) + seen_in_group held g
front_group held g =
    let next : 64 * (g + 1) ≡ 64 * g + 64 = omega arith in
    ap (λ n. seen (take n held)) next
    ∙ (ap seen (take-add (64 * g) 64 held) ∙ sum_by-append seen_in (take (64 * g) held) (take 64 (drop (64 * g) held)))

-- before a place it sees those of the chunks before its own, and those before it in that
pub seen_at_place : (held : ChunkCells) (i j : ℕ)
    → length (shown (before held i j)) ≡ seen (take i held) + length (shown (take j (get_or held i [])))
seen_at_place held i j =
    let both = shown_both (cells_of (take i held)) (take j (get_or held i [])) in
    let front = seen_all (take i held) in
    omega arith

-- a place has few cells of its own chunk before it, and a reader sees no more of them
pub few_own : (held : ChunkCells) (i j : ℕ) → AreSized 1 held → IsPlace held i j
    → (j ≤ 512) × (length (shown (take j (get_or held i []))) ≤ 512)
few_own held i j sized place =
    let within = (within_place held i j place).1 in
    let few = few_in_chunk held i sized in
    let own = length-take-le j (get_or held i []) within in
    let seen_own = seen_few (take j (get_or held i [])) in
    (omega arith, omega arith)

-- before a place there are few whole 64 chunks
pub few_groups : (held : ChunkCells) (i j : ℕ) → AreChunks held → IsPlace held i j → i / 64 ≤ length (cells_of held) / 16384
few_groups held i j chunks place =
    let inside = chunk_of_place held i j place in
    elim (cases_lt 1 (length held)) [ inl more ↦ let many = several held chunks more in omega arith | inr one ↦ omega arith ]

-- with one cell more it sees one more, if that is no tombstone
pub own_next : (held : ChunkCells) (i j : ℕ) (c : Cell) → cell_at held i j ≡ Some c
    → length (shown (take (j + 1) (get_or held i []))) ≡ length (shown (take j (get_or held i []))) + length (shown (c ∷ []))
own_next held i j c is =
    ap (λ cs. length (shown cs)) (cut_behind (get_or held i []) j c (in_its_chunk held i j c is).1).1
    ∙ shown_both (take j (get_or held i [])) (c ∷ [])

pub one_seen : (c : Cell) (gone : Bool) → (not c.is_removed) ≡ gone → length (shown (c ∷ [])) ≡ (if gone then 1 else 0)
one_seen c true is = rw is refl
one_seen c false is = rw is refl

-- ---- the walk

-- of the first n cells a reader sees as many as of the first n characters
seen_of_content : (ops : List Op) (doc n : ℕ) (cells : List Cell) → cells ≡ content_of ops doc → length (shown (take n cells)) ≡ seen_of ops doc n
seen_of_content ops doc n cells same =
    ap (λ cs. length (shown (take n cs))) same
    ∙ (ap (λ cs. length (shown cs)) (take-map (cell_of ops doc) n (walk ops doc))
    ∙ (ap length (shown-map ops doc (take n (walk ops doc)))
    ∙ length-map (filter (λ c. not (is_removed ops doc c)) (take n (walk ops doc))) (cell_of ops doc)))

-- what stands before a place are the first so many cells
first_before : (held : ChunkCells) (i j : ℕ) → take (length (before held i j)) (cells_of held) ≡ before held i j
first_before held i j =
    ap (take (length (before held i j))) (sym (joined held i j)) ∙ take-append_seam (before held i j) (from held i j)

-- so before a place a reader sees as many cells as before its character
seen_at : (held : ChunkCells) (ops : List Op) (doc i j n : ℕ) → Holds held ops doc → length (before held i j) ≡ n
    → length (shown (before held i j)) ≡ seen_of ops doc n
seen_at held ops doc i j n holds long =
    ap (λ cs. length (shown cs)) (sym (first_before held i j))
    ∙ (ap (λ m. length (shown (take m (cells_of held)))) long ∙ seen_of_content ops doc n (cells_of held) holds.content)

-- the walk has a character where there is a cell of its id
walk_has : (held : ChunkCells) (ops : List Op) (doc : ℕ) (id : Id) → Holds held ops doc → has_id (walk ops doc) id ≡ has_cell (cells_of held) id
walk_has held ops doc id holds = sym (ap (λ cs. has_cell cs id) holds.content ∙ has_cell-map ops doc id (walk ops doc))

-- as many cells stand before it as characters
index_is : (held : ChunkCells) (ops : List Op) (doc : ℕ) (id : Id) (i j : ℕ) → Holds held ops doc → IsPlaceOf held id i j
    → length (before held i j) ≡ index_of id (walk ops doc)
index_is held ops doc id i j holds there =
    let once = once_content (cells_of held) ops doc holds in
    (place_of-content (cells_of held) ops doc id (Some (length (before held i j))) holds (sym (index_there held id i j there once))).1

-- so many stand before its place
pub at_before : (held : ChunkCells) (ops : List Op) (doc : ℕ) (id : Id) (i j n : ℕ) → IsPlaceOf held id i j → n ≡ length (shown (before held i j))
    → Holds held ops doc → Some n ≡ at_of ops doc (Beside (Before id))
at_before held ops doc id i j n there is holds =
    let known : has_id (walk ops doc) id ≡ true = walk_has held ops doc id holds ∙ has_there held id i j there in
    rw known (ap Some (is ∙ seen_at held ops doc i j (index_of id (walk ops doc)) holds (index_is held ops doc id i j holds there)))

-- and after it
pub at_after : (held : ChunkCells) (ops : List Op) (doc : ℕ) (id : Id) (i j n : ℕ) → IsPlaceOf held id i j
    → n ≡ length (shown (before held i (j + 1))) → Holds held ops doc → Some n ≡ at_of ops doc (Beside (After id))
at_after held ops doc id i j n there is holds =
    let known : has_id (walk ops doc) id ≡ true = walk_has held ops doc id holds ∙ has_there held id i j there in
    let index = index_is held ops doc id i j holds there in
    let one = ap length (before_cell held i j there.c there.cell) in
    let all = length-append (before held i j) (there.c ∷ []) in
    let long : length (before held i (j + 1)) ≡ index_of id (walk ops doc) + 1 = omega arith in
    rw known (ap Some (is ∙ seen_at held ops doc i (j + 1) (index_of id (walk ops doc) + 1) holds long))

-- where there is no such cell there is no such place
pub none_before : (held : ChunkCells) (ops : List Op) (doc : ℕ) (id : Id) → has_cell (cells_of held) id ≡ false → Holds held ops doc
    → None ≡ at_of ops doc (Beside (Before id))
none_before held ops doc id none holds = rw (walk_has held ops doc id holds ∙ none) refl

pub none_after : (held : ChunkCells) (ops : List Op) (doc : ℕ) (id : Id) → has_cell (cells_of held) id ≡ false → Holds held ops doc
    → None ≡ at_of ops doc (Beside (After id))
none_after held ops doc id none holds = rw (walk_has held ops doc id holds ∙ none) refl

-- the end of the text
pub at_end : (held : ChunkCells) (ops : List Op) (doc n : ℕ) → n ≡ length (shown (cells_of held)) → Holds held ops doc
    → n ≡ seen_of ops doc (length (walk ops doc))
at_end held ops doc n is holds =
    let long : length (cells_of held) ≡ length (walk ops doc) = ap length holds.content ∙ length-map (walk ops doc) (cell_of ops doc) in
    let all : take (length (walk ops doc)) (cells_of held) ≡ cells_of held =
    ap (λ n. take n (cells_of held)) (sym long) ∙ take-length (cells_of held) in
    is ∙ (ap (λ cs. length (shown cs)) (sym all) ∙ seen_of_content ops doc (length (walk ops doc)) (cells_of held) holds.content)
