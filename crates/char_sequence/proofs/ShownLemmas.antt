-- Cells of a chunk that are read one after another.
use Rattle.std.proofs.lemmas.Bool.{true≢false}
use Rattle.std.proofs.lemmas.Bool.Decides.{nat_tests}
use Rattle.std.proofs.Common.{slice_get, ◌++◌, zero, suc, ◌≡◌, ◌≤◌, ◌<◌, refl, sym, arith, Bool, not}
use Rattle.std.proofs.Common.{if◌then◌else◌, ℕ, ◌+◌, ◌-◌, ◌==◌, true, false, List, [], ◌∷◌, length, drop, get_or}
use Rattle.std.proofs.Common.{Option, Some, None, ◌∙◌, ap}
use Rattle.std.specs.Option.{MatchOption}
use Rattle.std.proofs.Math.ListN.{drop_of_length-le}
use Rattle.char_sequence.specs.declared.cell.Cell.{Cell}
use Rattle.char_sequence.specs.declared.gap.Seen.{Seen}
use Rattle.char_sequence.specs.Cells.{behind_shown, shown, shown_at}
use Rattle.char_sequence.specs.Chunks.{ChunkCells, cell_at, cells_of, from}
use Rattle.char_sequence.specs.Gaps.{IsSeen}
use Rattle.char_sequence.proofs.BehindLemmas.{behind_none}
use Rattle.char_sequence.proofs.PlaceLemmas.{chunks_from, cut_behind, from_cell, in_its_chunk, place_behind}
use Rattle.char_sequence.proofs.ReadLemmas.{shown_first, shown_next, shown_skip}
use Rattle.char_sequence.proofs.StartLemmas.{from_start}
use Rattle.char_sequence.proofs.SumLemmas.{seen_few}

-- the cells of a chunk from one on begin with it
pub from_here : (held : ChunkCells) (i j : ℕ) (c : Cell) → cell_at held i j ≡ Some c
    → drop j (get_or held i []) ≡ c ∷ drop (j + 1) (get_or held i [])
from_here held i j c is = (cut_behind (get_or held i []) j c (in_its_chunk held i j c is).1).0

is_seen : (hidden : Bool) → (not hidden) ≡ true → hidden ≡ false
is_seen true seen = absurd (true≢false (sym seen))
is_seen false seen = refl

pub is_gone : (hidden : Bool) → (not hidden) ≡ false → hidden ≡ true
is_gone true gone = refl
is_gone false gone = absurd (true≢false gone)

-- behind the first n + 1 cells that a reader sees: a tombstone is none of them
behind_skip : (c : Cell) (cs : List Cell) (n : ℕ) → c.is_removed ≡ true → behind_shown (c ∷ cs) (n + 1) ≡ behind_shown cs (n + 1)
behind_skip c cs n gone = let some : (n + 1 == 0) ≡ false = grind (arith, nat_tests) in rw (some, gone) refl

-- another one is
behind_next : (c : Cell) (cs : List Cell) (n : ℕ) → c.is_removed ≡ false → behind_shown (c ∷ cs) (n + 1) ≡ behind_shown cs n
behind_next c cs n seen =
    let some : (n + 1 == 0) ≡ false = grind (arith, nat_tests) in
    let back : n + 1 - 1 ≡ n = omega arith in
    rw (some, seen, back) refl

-- the k-th cell that a reader sees from a chunk on is the one with `left` before it from a place on, and stands in the chunk
pub record SoFar (held : ChunkCells) (i j k left : ℕ) : Type 0 where
  pub found : shown_at (from held i 0) k ≡ shown_at (from held i j) left
  pub rest : behind_shown (from held i 0) (k + 1) ≡ behind_shown (from held i j) (left + 1)
  pub few : left < length (shown (drop j (get_or held i [])))

-- with a cell that a reader sees one fewer is left
pub found_next : (held : ChunkCells) (i j k left : ℕ) (c : Cell) → SoFar held i j k left → cell_at held i j ≡ Some c → (not c.is_removed) ≡ true
    → (left ≡ 0 → ⊥) → SoFar held i (j + 1) k (left - 1)
found_next held i j k left c so_far is seen some =
    let here = is_seen c.is_removed seen in
    let first = from_cell held i j c is in
    let more : (left == 0) ≡ false = grind (arith, nat_tests) in
    let back : left ≡ left - 1 + 1 = omega arith in
    let one : length (shown (drop j (get_or held i []))) ≡ 1 + length (shown (drop (j + 1) (get_or held i []))) =
    ap (λ cs. length (shown cs)) (from_here held i j c is)
    ∙ ap (λ gone. length (if not gone then c ∷ shown (drop (j + 1) (get_or held i [])) else shown (drop (j + 1) (get_or held i [])))) here
    ∙ omega arith in
    let few = so_far.few in
    record {
      found = so_far.found ∙ (ap (λ cs. shown_at cs left) first ∙ shown_next c (from held i (j + 1)) left here more);
      rest = so_far.rest ∙ (ap (λ cs. behind_shown cs (left + 1)) first ∙ (behind_next c (from held i (j + 1)) left here
          ∙ ap (behind_shown (from held i (j + 1))) back));
      few = omega arith;
    }

-- with a tombstone as many
pub found_skip : (held : ChunkCells) (i j k left : ℕ) (c : Cell) → SoFar held i j k left → cell_at held i j ≡ Some c → (not c.is_removed) ≡ false
    → SoFar held i (j + 1) k left
found_skip held i j k left c so_far is gone =
    let here = is_gone c.is_removed gone in
    let first = from_cell held i j c is in
    let same : length (shown (drop j (get_or held i []))) ≡ length (shown (drop (j + 1) (get_or held i []))) =
    ap (λ cs. length (shown cs)) (from_here held i j c is)
    ∙ ap (λ hidden. length (if not hidden then c ∷ shown (drop (j + 1) (get_or held i [])) else shown (drop (j + 1) (get_or held i [])))) here in
    let few = so_far.few in
    record {
      found = so_far.found ∙ (ap (λ cs. shown_at cs left) first ∙ shown_skip c (from held i (j + 1)) left here);
      rest = so_far.rest ∙ (ap (λ cs. behind_shown cs (left + 1)) first ∙ behind_skip c (from held i (j + 1)) left here);
      few = omega arith;
    }

-- where none is left, it is this one
pub found_here : (held : ChunkCells) (i j k left : ℕ) (c : Cell) (seen : Seen) → SoFar held i j k left → cell_at held i j ≡ Some c
    → (not c.is_removed) ≡ true → left ≡ 0 → seen ≡ record { id = c.id; behind = record { chunk = i; at = j + 1 } } → IsSeen held i 0 k seen
found_here held i j k left c seen so_far is shows none is_it =
    let here = is_seen c.is_removed shows in
    let first = from_cell held i j c is in
    let rest = from held i (j + 1) in
    rw is_it (record {
      id = so_far.found ∙ (ap (λ n. shown_at (from held i j) n) none ∙ (ap (λ cs. shown_at cs 0) first ∙ shown_first c rest here));
      place = place_behind held i j c is;
      rest = sym (so_far.rest ∙ (ap (λ n. behind_shown (from held i j) (n + 1)) none ∙ (ap (λ cs. behind_shown cs (0 + 1)) first
          ∙ (behind_next c rest 0 here ∙ behind_none rest))));
    })

-- at the end of the chunk none can be left
pub found_past : (held : ChunkCells) (i j k left : ℕ) → SoFar held i j k left → length (get_or held i []) ≤ j → ⊥
found_past held i j k left so_far end =
    let none : length (shown (drop j (get_or held i []))) ≡ 0 = ap (λ cs. length (shown cs)) (drop_of_length-le (get_or held i []) end) in
    let few = so_far.few in
    omega arith

-- what is seen from a chunk on is seen from the beginning on
seen_from : (held : ChunkCells) (i k left : ℕ) (seen : Seen) → shown_at (cells_of held) k ≡ shown_at (cells_of (drop i held)) left
    → behind_shown (cells_of held) (k + 1) ≡ behind_shown (cells_of (drop i held)) (left + 1) → IsSeen held i 0 left seen → IsSeen held 0 0 k seen
seen_from held i k left seen found rest is = record {
  id = ap (λ cs. shown_at cs k) (from_start held) ∙ (found ∙ (ap (λ cs. shown_at cs left) (chunks_from held i) ∙ is.id));
  place = is.place;
  rest = is.rest ∙ (ap (λ cs. behind_shown cs (left + 1)) (sym (chunks_from held i)) ∙ (sym rest ∙ ap (λ cs. behind_shown cs (k + 1)) (sym (from_start held))));
}

pub seen_of : (held : ChunkCells) (i k left : ℕ) (found : Option Seen) → shown_at (cells_of held) k ≡ shown_at (cells_of (drop i held)) left
    → behind_shown (cells_of held) (k + 1) ≡ behind_shown (cells_of (drop i held)) (left + 1) → MatchOption found ⊥ (IsSeen held i 0 left)
    → MatchOption found (shown_at (cells_of held) k ≡ None) (IsSeen held 0 0 k)
seen_of held i k left None found rest is = absurd is
seen_of held i k left (Some seen) found rest is = seen_from held i k left seen found rest is

-- ---- a chunk of which each cell is seen

-- where as many cells are seen as there are, the first one is, and as many as there are of the others
first_seen : (c : Cell) (cs : List Cell) → length (c ∷ cs) ≤ length (shown (c ∷ cs)) → (c.is_removed ≡ false) × (length cs ≤ length (shown cs))
first_seen c cs whole = step c.is_removed refl (seen_few cs) whole where
  step : (gone : Bool) → c.is_removed ≡ gone → length (shown cs) ≤ length cs → length (c ∷ cs) ≤ length (if not gone then c ∷ shown cs else shown cs)
      → (c.is_removed ≡ false) × (length cs ≤ length (shown cs))
  step true e few whole = absurd (let never : ⊥ = omega arith in never)
  step false e few whole = (e, omega arith)

-- there the k-th cell is the k-th that is seen, and the others follow it
kth_seen : (cs rest : List Cell) (k : ℕ) (c : Cell) → length cs ≤ length (shown cs) → slice_get cs k ≡ Some c
    → (shown_at (cs ++ rest) k ≡ Some c.id) × (behind_shown (cs ++ rest) (k + 1) ≡ drop (k + 1) cs ++ rest)
kth_seen [] rest k c whole is = absurd (cc)
kth_seen (d ∷ cs) rest zero c whole is =
    let (seen, others) = first_seen d cs whole in
    let same : d ≡ c = cc in
    (shown_first d (cs ++ rest) seen ∙ ap (λ (e : Cell). Some e.id) same, behind_next d (cs ++ rest) 0 seen ∙ behind_none (cs ++ rest))
kth_seen (d ∷ cs) rest (suc k) c whole is =
    let (seen, others) = first_seen d cs whole in
    let (found, behind) = kth_seen cs rest k c others is in
    let some : (suc k == 0) ≡ false = grind (arith, nat_tests) in
    let back : suc k - 1 ≡ k = omega arith in
    let next : suc k ≡ k + 1 = omega arith in
    let behind_all : suc k + 1 ≡ suc (k + 1) = omega arith in (
      shown_next d (cs ++ rest) (suc k) seen some ∙ (ap (shown_at (cs ++ rest)) back ∙ found),
      behind_next d (cs ++ rest) (suc k) seen ∙ (ap (behind_shown (cs ++ rest)) next ∙ (behind ∙ ap (λ n. drop n (d ∷ cs) ++ rest) (sym behind_all))),
    )

-- so it is found without a look at the cells before it
pub found_at : (held : ChunkCells) (i k : ℕ) (c : Cell) (seen : Seen) → length (get_or held i []) ≤ length (shown (get_or held i []))
    → cell_at held i k ≡ Some c → seen ≡ record { id = c.id; behind = record { chunk = i; at = k + 1 } } → IsSeen held i 0 k seen
found_at held i k c seen whole is is_it =
    let (found, behind) = kth_seen (get_or held i []) (cells_of (drop (i + 1) held)) k c whole (in_its_chunk held i k c is).1 in
    rw is_it (record { id = found; place = place_behind held i k c is; rest = sym behind })
