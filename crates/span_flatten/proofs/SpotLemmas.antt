-- Characters that are once there, chunk by chunk.
use Rattle.std.proofs.Common.{◌≡◌, ℕ, zero, suc, ◌+◌, Bool, true, false, ◌||◌, inl, inr, List, [], ◌∷◌, ◌++◌, length, take, drop, get_or}
use Rattle.std.proofs.Common.{refl, sym, ◌∙◌, ap, arith, length-append}
use Rattle.std.specs.Prelude.{nat_le}
use Rattle.std.proofs.Math.Seq.{take-append-add}
use Rattle.std.proofs.lemmas.Bool.{cases_Bool, cases_lt, both_ways, le-leb, lt-leb, or_left, or_right, or_parts}
use Rattle.std.proofs.lemmas.List.Folds.{list_any-append}
use Rattle.op_ids.specs.Id.{Id, is_same}
use Rattle.op_ids.proofs.IdLemmas.{same_from_test}
use Rattle.char_sequence.specs.declared.cell.Cell.{Cell}
use Rattle.char_sequence.specs.Cells.{has_cell}
use Rattle.char_sequence.specs.Chunks.{ChunkCells, cells_of}
use Rattle.char_sequence.specs.Weave.{AreOnce}
use Rattle.op_model.specs.declared.anchor.Anchor.{Anchor}
use Rattle.op_model.specs.declared.anchor.Anchor.TheVariants.{Before, After}
use Rattle.op_model.specs.declared.anchor.Start.TheVariants as start
use Rattle.op_model.specs.declared.anchor.End.TheVariants as end
use Rattle.op_model.specs.declared.marking.Marking.{Marking}
use Rattle.span_flatten.specs.declared.spot.Spot.{Spot}
use Rattle.span_flatten.specs.Reading.{offset}
use Rattle.span_flatten.specs.Spots.{begun_before, ended_before, id_of, AreSpots, IsBorder, IsSpot}
use Rattle.span_flatten.specs.Sweeping.{begun_at, ended_at, passes}

-- what is in one part isn't in the next one
once_apart : (xs ys : List Cell) (id : Id) → AreOnce (xs ++ ys) → has_cell xs id ≡ true → has_cell ys id ≡ false
once_apart [] ys id once there = absurd (cc)
once_apart (x ∷ xs) ys id once there =
    elim (cases_Bool (is_same x.id id)) [
      | inl e ↦
          let none : has_cell (xs ++ ys) id ≡ false = ap (λ i. has_cell (xs ++ ys) i) (sym (same_from_test x.id id e)) ∙ once.0 in
          (or_parts (has_cell xs id) (has_cell ys id) (sym (list_any-append (λ c. is_same c.id id) xs ys) ∙ none)).1
      | inr e ↦ once_apart xs ys id once.1 (rw e at there)
    ]

once_rest : (xs ys : List Cell) → AreOnce (xs ++ ys) → AreOnce ys
once_rest [] ys once = once
once_rest (x ∷ xs) ys once = once_rest xs ys once.1

-- a chunk's character is one of all
pub in_all : (held : ChunkCells) (i : ℕ) (id : Id) → has_cell (get_or held i []) id ≡ true → has_cell (cells_of held) id ≡ true
in_all [] i id there = absurd (cc)
in_all (k ∷ ks) zero id there =
    list_any-append (λ c. is_same c.id id) k (cells_of ks) ∙ or_left (has_cell k id) (has_cell (cells_of ks) id) there
in_all (k ∷ ks) (suc i) id there =
    list_any-append (λ c. is_same c.id id) k (cells_of ks) ∙ or_right (has_cell k id) (has_cell (cells_of ks) id) (in_all ks i id there)

-- it is in one chunk alone
pub one_chunk : (held : ChunkCells) (i j : ℕ) (id : Id) → AreOnce (cells_of held) → has_cell (get_or held i []) id ≡ true
    → has_cell (get_or held j []) id ≡ true → i ≡ j
one_chunk [] i j id once here there = absurd (cc)
one_chunk (k ∷ ks) zero zero id once here there = refl
one_chunk (k ∷ ks) zero (suc j) id once here there =
    absurd (both_ways (has_cell (cells_of ks) id) (once_apart k (cells_of ks) id once here) (in_all ks j id there))
one_chunk (k ∷ ks) (suc i) zero id once here there =
    absurd (both_ways (has_cell (cells_of ks) id) (once_apart k (cells_of ks) id once there) (in_all ks i id here))
one_chunk (k ∷ ks) (suc i) (suc j) id once here there = ap suc (one_chunk ks i j id (once_rest k (cells_of ks) once) here there)

-- the chunks before the i-th have the character of the s-th where that is one of them
pub before_chunk : (held : ChunkCells) (s i : ℕ) (id : Id) → AreOnce (cells_of held) → has_cell (get_or held s []) id ≡ true
    → nat_le (s + 1) i ≡ has_cell (cells_of (take i held)) id
before_chunk [] s i id once there = absurd (cc)
before_chunk (k ∷ ks) s zero id once there = lt-leb (s + 1) 0 (omega arith)
before_chunk (k ∷ ks) zero (suc i) id once there =
    le-leb (0 + 1) (suc i) (omega arith)
    ∙ sym (list_any-append (λ c. is_same c.id id) k (cells_of (take i ks)) ∙ or_left (has_cell k id) (has_cell (cells_of (take i ks)) id) there)
before_chunk (k ∷ ks) (suc s) (suc i) id once there =
    let none : has_cell k id ≡ false = not_both (has_cell k id) (λ e. both_ways (has_cell (cells_of ks) id) (once_apart k (cells_of ks) id once e) (in_all ks s id there)) in
    less s i
    ∙ before_chunk ks s i id (once_rest k (cells_of ks) once) there
    ∙ sym (list_any-append (λ c. is_same c.id id) k (cells_of (take i ks)) ∙ ap (λ b. b || has_cell (cells_of (take i ks)) id) none)
  where
    not_both : (b : Bool) → (b ≡ true → ⊥) → b ≡ false
    not_both true never = absurd (never refl)
    not_both false never = refl

    less : (a b : ℕ) → nat_le (suc a + 1) (suc b) ≡ nat_le (a + 1) b
    less a b =
        elim (cases_lt a b) [
          | inl below ↦ le-leb (suc a + 1) (suc b) (omega arith) ∙ sym (le-leb (a + 1) b (omega arith))
          | inr past ↦ lt-leb (suc a + 1) (suc b) (omega arith) ∙ sym (lt-leb (a + 1) b (omega arith))
        ]

-- what isn't there isn't before any chunk
pub nowhere_before : (held : ChunkCells) (i : ℕ) (id : Id) → has_cell (cells_of held) id ≡ false → has_cell (cells_of (take i held)) id ≡ false
nowhere_before [] zero id none = refl
nowhere_before [] (suc i) id none = refl
nowhere_before (k ∷ ks) zero id none = refl
nowhere_before (k ∷ ks) (suc i) id none =
    let parts = or_parts (has_cell k id) (has_cell (cells_of ks) id) (sym (list_any-append (λ c. is_same c.id id) k (cells_of ks)) ∙ none) in
    list_any-append (λ c. is_same c.id id) k (cells_of (take i ks))
    ∙ ap (λ b. b || has_cell (cells_of (take i ks)) id) parts.0
    ∙ nowhere_before ks i id parts.1

-- the cells before a chunk
pub cells_before : (held : ChunkCells) (i : ℕ) → take (offset held i) (cells_of held) ≡ cells_of (take i held)
cells_before [] zero = refl
cells_before [] (suc i) = refl
cells_before (k ∷ ks) zero = refl
cells_before (k ∷ ks) (suc i) =
    ap (λ n. take n (k ++ cells_of ks)) (length-append k (cells_of (take i ks)))
    ∙ take-append-add k (cells_of ks) (offset ks i)
    ∙ ap (λ cs. k ++ cs) (cells_before ks i)

-- a mark operation has begun before a chunk, or ended, where the character that it names stands before that
pub begun_there : (held : ChunkCells) (i : ℕ) (anchor : Anchor) → has_cell (cells_of (take i held)) (id_of anchor) ≡ begun_before held i (start.From anchor)
begun_there held i (Before id) = ap (λ cs. has_cell cs id) (sym (cells_before held i))
begun_there held i (After id) = ap (λ cs. has_cell cs id) (sym (cells_before held i))

pub ended_there : (held : ChunkCells) (i : ℕ) (anchor : Anchor) → has_cell (cells_of (take i held)) (id_of anchor) ≡ ended_before held i (end.To anchor)
ended_there held i (Before id) = ap (λ cs. has_cell cs id) (sym (cells_before held i))
ended_there held i (After id) = ap (λ cs. has_cell cs id) (sym (cells_before held i))

-- one more spot
pub spots_push : (held : ChunkCells) (ss : List Spot) (ms : List Marking) (s : Spot) (m : Marking) → AreSpots held ss ms → IsSpot held s m
    → AreSpots held (ss ++ s ∷ []) (ms ++ m ∷ [])
spots_push held [] [] s m are is = (is, tt)
spots_push held [] (n ∷ ms) s m are is = absurd are
spots_push held (t ∷ ss) [] s m are is = absurd are
spots_push held (t ∷ ss) (n ∷ ms) s m are is = (are.0, spots_push held ss ms s m are.1 is)

-- as many spots as mark operations
pub spots_long : (held : ChunkCells) (ss : List Spot) (ms : List Marking) → AreSpots held ss ms → length ss ≡ length ms
spots_long held [] [] are = refl
spots_long held [] (m ∷ ms) are = absurd are
spots_long held (s ∷ ss) [] are = absurd are
spots_long held (s ∷ ss) (m ∷ ms) are = ap suc (spots_long held ss ms are.1)

-- those of the first mark operations, and of the others
pub spots_front : (held : ChunkCells) (ss : List Spot) (olds news : List Marking) → AreSpots held ss (olds ++ news) → AreSpots held (take (length olds) ss) olds
spots_front held ss [] news are = tt
spots_front held [] (m ∷ olds) news are = absurd are
spots_front held (s ∷ ss) (m ∷ olds) news are = (are.0, spots_front held ss olds news are.1)

pub spots_rest : (held : ChunkCells) (ss : List Spot) (olds news : List Marking) → AreSpots held ss (olds ++ news) → AreSpots held (drop (length olds) ss) news
spots_rest held ss [] news are = are
spots_rest held [] (m ∷ olds) news are = absurd are
spots_rest held (s ∷ ss) (m ∷ olds) news are = spots_rest held ss olds news are.1

-- what they say of a chunk
pub spots_begun : (held : ChunkCells) (i : ℕ) (ss : List Spot) (ms : List Marking) → AreSpots held ss ms → IsBorder held i → (j : ℕ)
    → passes (λ s. nat_le s.from i) ss j ≡ begun_at (cells_of held) ms (offset held i) (offset held i) j
spots_begun held i [] [] are border j = refl
spots_begun held i [] (m ∷ ms) are border j = absurd are
spots_begun held i (s ∷ ss) [] are border j = absurd are
spots_begun held i (s ∷ ss) (m ∷ ms) are border zero = are.0.from i border
spots_begun held i (s ∷ ss) (m ∷ ms) are border (suc j) = spots_begun held i ss ms are.1 border j

pub spots_ended : (held : ChunkCells) (i : ℕ) (ss : List Spot) (ms : List Marking) → AreSpots held ss ms → IsBorder held i → (j : ℕ)
    → passes (λ s. nat_le s.to i) ss j ≡ ended_at (cells_of held) ms (offset held i) (offset held i) j
spots_ended held i [] [] are border j = refl
spots_ended held i [] (m ∷ ms) are border j = absurd are
spots_ended held i (s ∷ ss) [] are border j = absurd are
spots_ended held i (s ∷ ss) (m ∷ ms) are border zero = are.0.to i border
spots_ended held i (s ∷ ss) (m ∷ ms) are border (suc j) = spots_ended held i ss ms are.1 border j
