-- Whole 64 chunks that are passed on the way to a cell that a reader sees.
use Rattle.std.proofs.Common.{◌≡◌, ℕ, zero, suc, ◌+◌, ◌-◌, ◌*◌, ◌/◌, ◌≤◌, ◌<◌, [], ◌∷◌, ◌++◌, length, take, drop, get_or, sym, ◌∙◌, ap, arith}
use Rattle.std.proofs.Common.{◌⊎◌, inl, inr}
use Rattle.std.proofs.Common.{append-nil}
use Rattle.std.proofs.Math.Seq.{drop-nil, take-add}
use Rattle.std.proofs.lemmas.Bool.{cases_lt}
use Rattle.std.proofs.lemmas.List.{drop_more, take-append-drop}
use Rattle.std.proofs.lemmas.List.Sums.{sum_by-cons}
use Rattle.char_sequence.specs.declared.place.Place.{Place}
use Rattle.char_sequence.specs.Cells.{behind_shown, shown, shown_at}
use Rattle.char_sequence.specs.Chunks.{AreChunks, ChunkCells, before, cells_of, from}
use Rattle.char_sequence.specs.Reading.{Hides}
use Rattle.char_sequence.specs.Sums.{seen, seen_in, seen_in_group}
use Rattle.char_sequence.proofs.BehindLemmas.{behind_past}
use Rattle.char_sequence.proofs.HiddenLemmas.{no_items}
use Rattle.char_sequence.proofs.PlaceLemmas.{chunks_from, is_place}
use Rattle.char_sequence.proofs.ReadLemmas.{shown_past}
use Rattle.char_sequence.proofs.ReplacedLemmas.{cells_of-append}
use Rattle.char_sequence.proofs.SizeLemmas.{many_cells}
use Rattle.char_sequence.proofs.SumLemmas.{seen_all}

drop_again : (n m : ℕ) (ks : ChunkCells) → drop m (drop n ks) ≡ drop (n + m) ks
drop_again zero m ks = let same : m ≡ 0 + m = omega arith in ap (λ k. drop k ks) same
drop_again (suc n) m [] = drop-nil m ∙ sym (drop-nil (suc n + m))
drop_again (suc n) m (k ∷ ks) = let shift : suc n + m ≡ suc (n + m) = omega arith in rw shift (drop_again n m ks)

-- the cells of 64 chunks, and those behind
group_cells : (held : ChunkCells) (g : ℕ)
    → cells_of (drop (64 * g) held) ≡ cells_of (take 64 (drop (64 * g) held)) ++ cells_of (drop (64 * (g + 1)) held)
group_cells held g =
    let next : 64 * g + 64 ≡ 64 * (g + 1) = omega arith in
    let own = take 64 (drop (64 * g) held) in
    ap cells_of (sym (take-append-drop 64 (drop (64 * g) held)))
    ∙ (cells_of-append own (drop 64 (drop (64 * g) held))
    ∙ ap (λ ks. cells_of own ++ cells_of ks) (drop_again (64 * g) 64 held ∙ ap (λ n. drop n held) next))

-- where a reader sees at most n cells of 64 chunks, the n-th from there on is behind them
pub past_group : (held : ChunkCells) (g n : ℕ) → seen_in_group held g ≤ n
    → shown_at (cells_of (drop (64 * g) held)) n ≡ shown_at (cells_of (drop (64 * (g + 1)) held)) (n - seen_in_group held g)
past_group held g n past =
    let own = take 64 (drop (64 * g) held) in
    let all = seen_all own in
    ap (λ cs. shown_at cs n) (group_cells held g)
    ∙ (shown_past (cells_of own) (cells_of (drop (64 * (g + 1)) held)) n (omega arith)
    ∙ ap (λ m. shown_at (cells_of (drop (64 * (g + 1)) held)) (n - m)) (sym all))

-- and what stands behind the first n
pub behind_group : (held : ChunkCells) (g n : ℕ) → seen_in_group held g < n
    → behind_shown (cells_of (drop (64 * g) held)) n ≡ behind_shown (cells_of (drop (64 * (g + 1)) held)) (n - seen_in_group held g)
behind_group held g n past =
    let own = take 64 (drop (64 * g) held) in
    let all = seen_all own in
    ap (λ cs. behind_shown cs n) (group_cells held g)
    ∙ (behind_past (cells_of own) (cells_of (drop (64 * (g + 1)) held)) n (omega arith)
    ∙ ap (λ m. behind_shown (cells_of (drop (64 * (g + 1)) held)) (n - m)) (sym all))

-- past a chunk it is among one fewer
pub near_next : (held : ChunkCells) (i m n left : ℕ) → i < length held → n ≡ suc m → left < seen (take n (drop i held)) → seen_in (get_or held i []) ≤ left
    → left - seen_in (get_or held i []) < seen (take m (drop (i + 1) held))
near_next held i m n left inside more near past =
    let first = drop_more held i [] inside in
    let all = ap (λ k. seen (take k (drop i held))) more ∙ ap (λ ks. seen (take (suc m) ks)) first in
    let parts = sum_by-cons seen_in (get_or held i []) (take m (drop (i + 1) held)) in
    omega arith

-- among no chunks there is none
pub near_none : (held : ChunkCells) (i n left : ℕ) → left < seen (take n (drop i held)) → 0 < n
near_none held i zero left near = absurd (omega arith)
near_none held i (suc n) left near = omega arith

-- several chunks have at least 256 cells each
pub several : (held : ChunkCells) → AreChunks held → 1 < length held → length held ≤ length (cells_of held) / 256
several held chunks more = let many = many_cells held (chunks.halved more) in omega arith

-- what a search reads: from a chunk on, which was found by at most a 64th of the reads and one, the chunks up to the i-th, and so many cells
pub record Reads (before started at now chunk i cells : ℕ) : Type 0 where
  pub groups : started ≤ before + (chunk / 64 + 1)
  pub low : chunk ≤ i
  pub chunks : at ≤ started + (i - chunk)
  pub last : now ≤ at + 1 + cells
  pub small : cells ≤ 512

-- at most each chunk, and the cells of one
pub reads_all : (before started at now chunk i cells long n : ℕ) → Reads before started at now chunk i cells → i < long → (long < 64 → started ≡ before)
    → (1 < long → long ≤ n / 256) → long ≤ 1 + n / 256 → now ≤ before + (1 + n / 256 + 512)
reads_all before started at now chunk i cells long n reads inside none each all =
    let groups = reads.groups in let low = reads.low in let chunks = reads.chunks in let last = reads.last in let small = reads.small in
    elim (cases_lt long 64) [
      | inl few ↦ let same = none few in omega arith
      | inr many ↦ let same = each (omega arith) in omega arith
    ]

-- at most a 64th of the chunks and 66 more, and the cells of one
pub reads_few : (before started at now chunk i cells long n : ℕ) → Reads before started at now chunk i cells → i ≤ long
    → (chunk + 64 ≤ long → 0 < chunk + 64 - i) → (i < long) ⊎ (cells ≡ 0) → long ≤ 1 + n / 256 → now ≤ before + (n / 16384 + 578)
reads_few before started at now chunk i cells long n reads here close inside all =
    let groups = reads.groups in let low = reads.low in let chunks = reads.chunks in let last = reads.last in let small = reads.small in
    elim (cases_lt long (chunk + 64)) [
      | inr whole ↦ let near = close whole in omega arith
      | inl ends ↦ elim inside [ inl before_end ↦ omega arith | inr none ↦ omega arith ]
    ]

-- 64 chunks that show nothing are passed
pub hides_group : (held : ChunkCells) (at : Place) (g : ℕ) → at.at ≡ 0 → at.chunk ≡ 64 * g → at.chunk + 64 < length held → seen_in_group held g ≡ 0
    → Hides held at (record { chunk = at.chunk + 64; at = 0 })
hides_group held at g begins is more none =
    let own = take 64 (drop at.chunk held) in
    let shows : length (shown (cells_of own)) ≡ 0 = sym (seen_all own) ∙ (ap (λ n. seen (take 64 (drop n held))) is ∙ none) in
    let cells = sym (cells_of-append own (drop 64 (drop at.chunk held))) ∙ ap cells_of (take-append-drop 64 (drop at.chunk held)) in
    record {
      place = is_place held (at.chunk + 64) 0 more (omega arith);
      between = cells_of own;
      hidden = no_items (shown (cells_of own)) shows;
      first = ap (from held at.chunk) begins ∙ (sym (chunks_from held at.chunk) ∙ (sym cells
          ∙ ap (λ cs. cells_of own ++ cs) (ap cells_of (drop_again at.chunk 64 held) ∙ chunks_from held (at.chunk + 64))));
      passed = append-nil (cells_of (take (at.chunk + 64) held)) ∙ (ap cells_of (take-add at.chunk 64 held)
          ∙ (cells_of-append (take at.chunk held) own ∙ ap (λ cs. cs ++ cells_of own) (sym (append-nil (cells_of (take at.chunk held)))
          ∙ ap (before held at.chunk) (sym begins))));
    }
