-- A chunk in which nothing changed.
use Rattle.std.proofs.Common.{◌≡◌, ℕ, zero, suc, ◌+◌, ◌-◌, ◌<◌, ◌≤◌, Bool, true, false, not}
use Rattle.std.proofs.Common.{◌&&◌, ◌||◌, if◌then◌else◌, inl, inr, List, [], ◌∷◌, ◌++◌, length, take, drop, get_or}
use Rattle.std.proofs.Common.{Option, Some, None, refl, sym, ◌∙◌, ap, arith, add-one, append-nil}
use Rattle.std.specs.Prelude.{nat_le, nat_lt, slice_get}
use Rattle.std.specs.List.{list_any}
use Rattle.std.proofs.lemmas.Bool.{cases_Bool, cases_lt, both_ways, le-leb, lt-leb, or_left, or_right, or_parts, and_left, and_right}
use Rattle.std.proofs.lemmas.List.{take-append-drop}
use Rattle.std.proofs.lemmas.List.Elements.{filter-append}
use Rattle.op_ids.specs.Id.{Id, is_same}
use Rattle.op_ids.proofs.IdLemmas.{test_from_same}
use Rattle.op_model.specs.declared.op.Op.{Op}
use Rattle.op_model.specs.declared.change_step.ChangeStep.{ChangeStep}
use Rattle.op_model.specs.declared.change_step.ChangeStep.TheVariants.{Keep, Drop, Put, Mark}
use Rattle.op_model.specs.declared.anchor.Anchor.TheVariants.{Before, After}
use Rattle.op_model.specs.declared.anchor.Start.{Start}
use Rattle.op_model.specs.declared.anchor.Start.TheVariants as start
use Rattle.op_model.specs.declared.anchor.End.{End}
use Rattle.op_model.specs.declared.anchor.End.TheVariants as end
use Rattle.op_model.specs.declared.marking.Marking.{Marking}
use Rattle.op_model.specs.Changes.{in_one}
use Rattle.op_model.specs.Marks.{markings}
use Rattle.op_model.specs.Spans.{is_same_marks}
use Rattle.model_laws.specs.Since.{with_any_last, with_last}
use Rattle.op_model.specs.declared.mark.Marks.{Marks}
use Rattle.model_laws.proofs.Growth.{or-false}
use Rattle.model_laws.proofs.Runs.{marks_same}
use Rattle.char_sequence.specs.declared.cell.Cell.{Cell}
use Rattle.char_sequence.specs.declared.chunk_size.ChunkSize.{ChunkSize}
use Rattle.char_sequence.specs.Cells.{has_cell, shown}
use Rattle.char_sequence.specs.Chunks.{ChunkCells, cell_at, cells_of, size_at, size_of}
use Rattle.char_sequence.specs.Content.{AreContent}
use Rattle.char_sequence.proofs.OnceLemmas.{once_content}
use Rattle.span_flatten.specs.declared.plan.Plan.{Plan}
use Rattle.span_flatten.specs.declared.since.Since.{Since}
use Rattle.span_flatten.specs.declared.spot.Spot.{Spot}
use Rattle.span_flatten.specs.Covering.{covering, covers_cell, covered_to}
use Rattle.span_flatten.specs.Formatting.{marks_in}
use Rattle.span_flatten.specs.Passing.{told, is_quiet, IsPlan}
use Rattle.span_flatten.specs.Reading.{offset}
use Rattle.span_flatten.specs.Since.{has_inserted, has_removed, older, was_seen, IsSince}
use Rattle.span_flatten.specs.Spots.{has_chunk, may_cover, AreSpots, IsBorder, IsSpot}
use Rattle.span_flatten.specs.Sweeping.{has_begun, has_ended}
use Rattle.span_flatten.specs.Telling.{keeping, turned}
use Rattle.span_flatten.proofs.ChangeLemmas.{told_next}
use Rattle.span_flatten.proofs.HeldLemmas.{cell_there, chunk_within, offset_more}
use Rattle.span_flatten.proofs.PassLemmas.{start_covers, end_covers, within_cells}
use Rattle.span_flatten.proofs.SpotLemmas.{spots_rest}

-- a step after one that was put last
behind_cons : (o : Option ChangeStep) (v s t x : ChangeStep)
    → with_last (x ∷ (elim o as (λ _. List ChangeStep) [ Some u ↦ u ∷ [] | None ↦ v ∷ s ∷ [] ])) t
    ≡ x ∷ with_last (elim o as (λ _. List ChangeStep) [ Some u ↦ u ∷ [] | None ↦ v ∷ s ∷ [] ]) t
behind_cons (Some u) v s t x = refl
behind_cons None v s t x = refl

last_cons : (ss : List ChangeStep) (v s t x : ChangeStep) → with_last (x ∷ with_last (v ∷ ss) s) t ≡ x ∷ with_last (with_last (v ∷ ss) s) t
last_cons [] v s t x = behind_cons (in_one v s) v s t x
last_cons (w ∷ ss) v s t x = refl

-- so many kept and one more are one more kept
one_step : (t : ChangeStep) (a : ℕ) → with_last (with_last (t ∷ []) (Keep a)) (Keep 1) ≡ with_last (t ∷ []) (Keep (a + 1))
one_step (Keep b) a = let sums : (b + a) + 1 ≡ b + (a + 1) = omega arith in ap (λ n. Keep n ∷ []) sums
one_step (Drop b) a = refl
one_step (Put s) a = refl
one_step (Mark b m) a = refl

two_kept : (ss : List ChangeStep) (a : ℕ) → with_last (with_last ss (Keep a)) (Keep 1) ≡ with_last ss (Keep (a + 1))
two_kept [] a = refl
two_kept (t ∷ []) a = one_step t a
two_kept (t ∷ v ∷ ss) a = last_cons ss v (Keep a) (Keep 1) t ∙ ap (λ xs. t ∷ xs) (two_kept (v ∷ ss) a)

pub keeping_more : (ss : List ChangeStep) (n : ℕ) → with_last (keeping ss n) (Keep 1) ≡ keeping ss (suc n)
keeping_more ss zero = refl
keeping_more ss (suc n) = let up : suc n + 1 ≡ suc (suc n) = omega arith in two_kept ss (suc n) ∙ ap (λ m. with_last ss (Keep m)) up

-- cells of which each says only that it stays
abbrev Stays : (ℕ → List ChangeStep) → ℕ → List Cell → Type 0
Stays say k cs = (j : ℕ) (c : Cell) → slice_get cs j ≡ Some c
    → with_any_last (say (k + j)) (if c.is_removed then None else Some (Keep 1)) ≡ say (k + j + 1)

all_stay : (say : ℕ → List ChangeStep) (ss : List ChangeStep) (cs : List Cell) (k n : ℕ) → Stays say k cs → say k ≡ keeping ss n
    → say (k + length cs) ≡ keeping ss (length (shown cs) + n)
all_stay say ss [] k n stays is =
    let same : k + 0 ≡ k = omega arith in let none : 0 + n ≡ n = omega arith in
    ap say same ∙ is ∙ ap (keeping ss) (sym none)
all_stay say ss (c ∷ cs) k n stays is =
    let here : k + 0 ≡ k = omega arith in
    let first : with_any_last (say k) (if c.is_removed then None else Some (Keep 1)) ≡ say (k + 1) =
    ap (λ i. with_any_last (say i) (if c.is_removed then None else Some (Keep 1))) (sym here) ∙ stays 0 c refl ∙ ap (λ i. say (i + 1)) here in
    let rest : Stays say (k + 1) cs = λ j d there.
    let up : k + suc j ≡ k + 1 + j = omega arith in
    ap (λ i. with_any_last (say i) (if d.is_removed then None else Some (Keep 1))) (sym up) ∙ stays (suc j) d there ∙ ap (λ i. say (i + 1)) up in
    let long : k + suc (length cs) ≡ k + 1 + length cs = omega arith in
    elim (cases_Bool c.is_removed) [
      | inl e ↦ rw e (ap say long ∙ all_stay say ss cs (k + 1) n rest (sym first ∙ rw e is))
      | inr e ↦
          let more : length (shown cs) + suc n ≡ suc (length (shown cs)) + n = omega arith in
          rw e (ap say long
          ∙ all_stay say ss cs (k + 1) (suc n) rest (sym first ∙ rw e (ap (λ xs. with_last xs (Keep 1)) is ∙ keeping_more ss n))
          ∙ ap (keeping ss) more)
    ]

-- a cell of a chunk is one of its cells
cell_has : (cs : List Cell) (j : ℕ) (c : Cell) → slice_get cs j ≡ Some c → has_cell cs c.id ≡ true
cell_has [] j c there = absurd (cc)
cell_has (d ∷ cs) zero c there =
    let same : d ≡ c = cc in or_left (is_same d.id c.id) (has_cell cs c.id) (test_from_same d.id c.id (ap (λ (x : Cell). x.id) same))
cell_has (d ∷ cs) (suc j) c there = or_right (is_same d.id c.id) (has_cell cs c.id) (cell_has cs j c there)

cell_in : (held : ChunkCells) (i j : ℕ) → i < length held → cell_at held i j ≡ slice_get (get_or held i []) j
cell_in [] i j within = absurd (omega arith)
cell_in (k ∷ ks) zero j within = refl
cell_in (k ∷ ks) (suc i) j within = cell_in ks i j (omega arith)

size_is : (held : ChunkCells) (i : ℕ) (size : ChunkSize) → size_at held i ≡ Some size → size ≡ size_of (get_or held i [])
size_is [] i size there = absurd (cc)
size_is (k ∷ ks) zero size there = let same : size_of k ≡ size = cc in sym same
size_is (k ∷ ks) (suc i) size there = size_is ks i size there

-- more cells have what fewer have
more_have : (cs : List Cell) (a b : ℕ) (id : Id) → a ≤ b → has_cell (take a cs) id ≡ true → has_cell (take b cs) id ≡ true
more_have [] zero zero id below there = there
more_have [] zero (suc b) id below there = absurd (cc)
more_have [] (suc a) zero id below there = absurd (cc)
more_have [] (suc a) (suc b) id below there = there
more_have (c ∷ cs) zero b id below there = absurd (cc)
more_have (c ∷ cs) (suc a) zero id below there = absurd (omega arith)
more_have (c ∷ cs) (suc a) (suc b) id below there =
    elim (cases_Bool (is_same c.id id)) [
      | inl e ↦ rw e refl
      | inr e ↦ rw e (more_have cs a b id (omega arith) (rw e at there))
    ]

begun_later : (cells : List Cell) (r p s t : ℕ) (b : Start) → r ≤ s → p ≤ t → has_begun cells r p b ≡ true → has_begun cells s t b ≡ true
begun_later cells r p s t start.OfText reach pass is = refl
begun_later cells r p s t (start.From (Before id)) reach pass is = more_have cells r s id reach is
begun_later cells r p s t (start.From (After id)) reach pass is = more_have cells p t id pass is

ended_later : (cells : List Cell) (r p s t : ℕ) (e : End) → r ≤ s → p ≤ t → has_ended cells r p e ≡ true → has_ended cells s t e ≡ true
ended_later cells r p s t end.OfText reach pass is = is
ended_later cells r p s t (end.To (Before id)) reach pass is = more_have cells r s id reach is
ended_later cells r p s t (end.To (After id)) reach pass is = more_have cells p t id pass is

not_true : (b : Bool) → (b ≡ true → ⊥) → b ≡ false
not_true true never = absurd (never refl)
not_true false never = refl

-- a mark operation that may not cover a chunk covers none of its cells
module _ (held : ChunkCells) (i k : ℕ) (first : IsBorder held i) (next : IsBorder held (i + 1)) (from : offset held i ≤ k) (to : k < offset held (i + 1))
    (within : k < length (cells_of held)) where
  not_covered : (s : Spot) (m : Marking) → IsSpot held s m → may_cover i s ≡ false → covers_cell (cells_of held) k m ≡ false
  not_covered s m is may =
      ap (λ b. b && nat_lt k (covered_to (cells_of held) m.end)) (start_covers (cells_of held) k m.start within)
      ∙ ap (λ b. has_begun (cells_of held) (k + 1) k m.start && b) (end_covers (cells_of held) k m.end within)
      ∙ elim (cases_Bool (nat_le s.to i)) [
        | inl e ↦
            let over : has_ended (cells_of held) (k + 1) k m.end ≡ true =
            ended_later (cells_of held) (offset held i) (offset held i) (k + 1) k m.end (omega arith) from (sym (is.to i first) ∙ e) in
            and_right (has_begun (cells_of held) (k + 1) k m.start) (not (has_ended (cells_of held) (k + 1) k m.end)) (ap not over)
        | inr e ↦
            let late : nat_le (s.from - 1) i ≡ false = first_false (nat_le (s.from - 1) i) (nat_le s.to i) e may in
            let later : nat_le s.from (i + 1) ≡ false = past s.from late in
            let none : has_begun (cells_of held) (k + 1) k m.start ≡ false =
            not_true (has_begun (cells_of held) (k + 1) k m.start) (λ b. both_ways (nat_le s.from (i + 1)) later
            (is.from (i + 1) next ∙ begun_later (cells_of held) (k + 1) k (offset held (i + 1)) (offset held (i + 1)) m.start (omega arith) (omega arith) b)) in
            and_left (has_begun (cells_of held) (k + 1) k m.start) (not (has_ended (cells_of held) (k + 1) k m.end)) none
      ]
    where
      first_false : (a b : Bool) → b ≡ false → (a && not b) ≡ false → a ≡ false
      first_false true b e f = absurd (both_ways true (rw e at f) refl)
      first_false false b e f = refl

      past : (n : ℕ) → nat_le (n - 1) i ≡ false → nat_le n (i + 1) ≡ false
      past n e =
          elim (cases_lt (i + 1) n) [
            | inl above ↦ lt-leb n (i + 1) above
            | inr most ↦ absurd (both_ways (nat_le (n - 1) i) e (le-leb (n - 1) i (omega arith)))
          ]

  none_cover : (ss : List Spot) (ms : List Marking) → AreSpots held ss ms → list_any (may_cover i) ss ≡ false → covering (cells_of held) ms k ≡ []
  none_cover [] [] are none = refl
  none_cover [] (m ∷ ms) are none = absurd are
  none_cover (s ∷ ss) [] are none = absurd are
  none_cover (s ∷ ss) (m ∷ ms) are none =
      let parts = or_parts (may_cover i s) (list_any (may_cover i) ss) none in
      rw (not_covered s m are.0 parts.0) (none_cover ss ms are.1 parts.1)

both_not : (a b : Bool) → (not a && not b) ≡ true → (a ≡ false) × (b ≡ false)
both_not true b e = absurd (both_ways false refl e)
both_not false true e = absurd (both_ways false refl e)
both_not false false e = (refl, refl)

-- a character that was seen exactly if it is seen, with the same marks, stays
turned_same : (removed was same : Bool) (marks : Marks) (value : ℕ) → was ≡ not removed → same ≡ true
    → (if removed then None else Some (Keep 1)) ≡ turned was (not removed) same marks value
turned_same true was same marks value e f = rw e refl
turned_same false was same marks value e f = rw (e, f) refl

module _ (before more : List Op) (doc : ℕ) (held : ChunkCells) (since : Since) (ms : List Marking) (p : Plan) (i : ℕ) (size : ChunkSize)
    (holds : AreContent (cells_of held) (before ++ more) doc) (all : ms ≡ markings (before ++ more) doc) (noted : IsSince since before more doc)
    (plan : IsPlan p held since ms) (there : size_at held i ≡ Some size) (quiet : is_quiet p (length (older since ms)) i ≡ true) where
  quiet_stays : Stays (told before more doc) (offset held i) (get_or held i [])
  quiet_stays j c at =
      let k : ℕ = offset held i + j in
      let within = chunk_within held i size there in
      let parts = both_not (has_chunk p.touched i) (list_any (may_cover i) (drop (length (older since ms)) p.spots.items)) quiet in
      let once = once_content (cells_of held) (before ++ more) doc holds in
      let at_k : slice_get (cells_of held) k ≡ Some c = cell_there held i j c (cell_in held i j within ∙ at) in
      let in_it = cell_has (get_or held i []) j c at in
      let came : has_inserted since c.id ≡ false =
      not_true (has_inserted since c.id) (λ e. both_ways (has_chunk p.touched i) parts.0 (plan.came c.id e once i in_it)) in
      let went : has_removed since c.id ≡ false =
      not_true (has_removed since c.id) (λ e. both_ways (has_chunk p.touched i) parts.0 (plan.went c.id e once i in_it)) in
      let seen : was_seen since c ≡ not c.is_removed =
      ap (λ b. not b && (not c.is_removed || has_removed since c.id)) came
      ∙ ap (λ b. not c.is_removed || b) went ∙ or-false (not c.is_removed) in
      let whole = take-append-drop (length ms - since.marked) ms in
      let news : List Marking = drop (length ms - since.marked) ms in
      let spots : AreSpots held p.spots.items (older since ms ++ news) = rw whole plan.spots in
      let rest = spots_rest held p.spots.items (older since ms) news spots in
      let long = offset_more held i size there in
      let same = size_is held i size there in
      let short = within_cells (get_or held i []) j c at in
      let cells_too : size.cells ≡ length (get_or held i []) = ap (λ (z : ChunkSize). z.cells) same in
      let to : k < offset held (i + 1) = rw add-one (omega (arith, long, short, cells_too)) in
      let none = none_cover held i k (record { once = once; within = omega arith }) (record { once = once; within = omega arith }) (omega arith) to
      (within_cells (cells_of held) k c at_k) (drop (length (older since ms)) p.spots.items) news rest parts.1 in
      let cover : covering (cells_of held) ms k ≡ covering (cells_of held) (older since ms) k =
      ap (λ ns. covering (cells_of held) ns k) (sym whole)
      ∙ filter-append (λ m. covers_cell (cells_of held) k m) (older since ms) news
      ∙ ap (λ ns. covering (cells_of held) (older since ms) k ++ ns) none
      ∙ append-nil (covering (cells_of held) (older since ms) k) in
      let alike : is_same_marks (marks_in (covering (cells_of held) (older since ms) k)) (marks_in (covering (cells_of held) ms k)) ≡ true =
      ap (λ ns. is_same_marks (marks_in ns) (marks_in (covering (cells_of held) ms k))) (sym cover)
      ∙ marks_same (marks_in (covering (cells_of held) ms k)) in
      ap (λ s. with_any_last (told before more doc k) s) (turned_same c.is_removed (was_seen since c)
      (is_same_marks (marks_in (covering (cells_of held) (older since ms) k)) (marks_in (covering (cells_of held) ms k)))
      (marks_in (covering (cells_of held) ms k)) c.value seen alike)
      ∙ told_next before more doc since noted (cells_of held) ms k c at_k holds all

  -- of a quiet chunk all visible characters stay
  pub quiet_told : told before more doc (offset held (i + 1)) ≡ keeping (told before more doc (offset held i)) size.shown
  quiet_told =
      let long = offset_more held i size there in
      let same = size_is held i size there in
      let cells_too : size.cells ≡ length (get_or held i []) = ap (λ (z : ChunkSize). z.cells) same in
      let shown_too : size.shown ≡ length (shown (get_or held i [])) = ap (λ (z : ChunkSize). z.shown) same in
      let end : offset held (i + 1) ≡ offset held i + length (get_or held i []) = rw add-one (omega (arith, long, cells_too)) in
      let count : length (shown (get_or held i [])) + 0 ≡ size.shown = omega (arith, shown_too) in
      ap (told before more doc) end
      ∙ all_stay (told before more doc) (told before more doc (offset held i)) (get_or held i []) (offset held i) 0 quiet_stays refl
      ∙ ap (keeping (told before more doc (offset held i))) count

-- so many are kept, if they are some
pub keeping_some : (ss : List ChangeStep) (n : ℕ) → (n ≡ 0 → ⊥) → with_last ss (Keep n) ≡ keeping ss n
keeping_some ss zero some = absurd (some refl)
keeping_some ss (suc n) some = refl
