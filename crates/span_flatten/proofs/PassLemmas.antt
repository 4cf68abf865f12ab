-- What the cells that were reached, and those that were passed, say of the mark operations that cover a cell.
use Rattle.std.proofs.Common.{◌≡◌, ℕ, zero, suc, ◌+◌, ◌<◌, ◌≤◌, ◌==◌, Bool, true, false, not, ◌&&◌, ◌||◌, if◌then◌else◌, inl, inr, List, [], ◌∷◌}
use Rattle.std.proofs.Common.{◌++◌, length, take, Some, refl, sym, ◌∙◌, ap, arith, add-one}
use Rattle.std.specs.Prelude.{filter, nat_le, nat_lt, slice_get}
use Rattle.std.specs.List.{list_any}
use Rattle.std.proofs.lemmas.Bool.{cases_Bool, cases_lt, eq-eqb, ne_eqb, lt-ltb, le-ltb, le-leb, lt-leb}
use Rattle.std.proofs.lemmas.Bool.Decides.{nat_tests}
use Rattle.std.proofs.lemmas.List.Sorted.{list_any-IsPermutation}
use Rattle.op_ids.specs.Id.{Id, is_same}
use Rattle.op_model.specs.declared.anchor.Anchor.{Anchor}
use Rattle.op_model.specs.declared.anchor.Anchor.TheVariants.{Before, After}
use Rattle.op_model.specs.declared.anchor.Start.{Start}
use Rattle.op_model.specs.declared.anchor.Start.TheVariants as start
use Rattle.op_model.specs.declared.anchor.End.{End}
use Rattle.op_model.specs.declared.anchor.End.TheVariants as end
use Rattle.op_model.specs.declared.marking.Marking.{Marking}
use Rattle.op_model.specs.declared.mark.Marks.{Marks}
use Rattle.op_model.specs.declared.span.Span.{Span}
use Rattle.op_model.specs.Spans.{is_same_bool}
use Rattle.char_sequence.specs.declared.cell.Cell.{Cell}
use Rattle.char_sequence.specs.Cells.{has_cell}
use Rattle.mark_anchors.specs.declared.edge.Edge.{Edge}
use Rattle.mark_anchors.specs.Edges.{edge_beside, edges_from, edges_of, end_edges, start_edges, AreEdges}
use Rattle.span_flatten.specs.Covering.{covered_from, covered_to, covering, covers_cell, index_in}
use Rattle.span_flatten.specs.Sweeping.{begun_at, ended_at, has_begun, has_ended, is_edge, is_from_start, kept, passes, with_back, with_edges, IsActive}
use Rattle.span_flatten.specs.Picking.{picked}
use Rattle.span_flatten.specs.declared.active.Active.{Active}
use Rattle.span_flatten.specs.Formatting.{marks_in}
use Rattle.span_flatten.specs.Runs.{cell_runs}
use Rattle.mark_anchors.proofs.EdgeLemmas.{any_filter}
use Rattle.mark_anchors.proofs.EdgeLemmas.{any_append as any_both}
use Rattle.span_flatten.proofs.ActiveLemmas.{active_same, and_false, or_assoc, or_false}
use Rattle.span_flatten.proofs.BackLemmas.{back_step}
use Rattle.span_flatten.proofs.CellLemmas.{more}
use Rattle.span_flatten.proofs.IndexLemmas.{picked_active}

same_back : (a b : Id) → is_same a b ≡ is_same b a
unfolding is_same
same_back a b = grind (arith, nat_tests)

-- the cells before the n-th have an id where its index is below
index_below : (id : Id) (cells : List Cell) (n : ℕ) → n ≤ length cells → nat_lt (index_in id cells) n ≡ has_cell (take n cells) id
index_below id [] zero within = refl
index_below id [] (suc n) within = absurd (omega arith)
index_below id (c ∷ cells) zero within = le-ltb (index_in id (c ∷ cells)) 0 (omega arith)
index_below id (c ∷ cells) (suc n) within =
    elim (cases_Bool (is_same c.id id)) [
      | inl e ↦ rw e (lt-ltb 0 (suc n) (omega arith))
      | inr e ↦ rw e (less (index_in id cells) n ∙ index_below id cells n (omega arith))
    ]
  where
    less : (i n : ℕ) → nat_lt (i + 1) (suc n) ≡ nat_lt i n
    less i n =
        elim (cases_lt i n) [
          | inl below ↦ lt-ltb (i + 1) (suc n) (omega arith) ∙ sym (lt-ltb i n below)
          | inr past ↦ le-ltb (i + 1) (suc n) (omega arith) ∙ sym (le-ltb i n past)
        ]

le_lt : (a b : ℕ) → nat_le a b ≡ nat_lt a (b + 1)
le_lt a b =
    elim (cases_lt b a) [
      | inl above ↦ lt-leb a b above ∙ sym (le-ltb a (b + 1) (omega arith))
      | inr most ↦ le-leb a b most ∙ sym (lt-ltb a (b + 1) (omega arith))
    ]

lt_not : (a b : ℕ) → nat_lt a b ≡ not (nat_lt b (a + 1))
lt_not a b =
    elim (cases_lt a b) [
      | inl below ↦ lt-ltb a b below ∙ ap not (sym (le-ltb b (a + 1) (omega arith)))
      | inr past ↦ le-ltb a b past ∙ ap not (sym (lt-ltb b (a + 1) (omega arith)))
    ]

le_more : (a b : ℕ) → nat_le (a + 1) b ≡ nat_lt a b
le_more a b =
    elim (cases_lt a b) [
      | inl below ↦ le-leb (a + 1) b (omega arith) ∙ sym (lt-ltb a b below)
      | inr past ↦ lt-leb (a + 1) b (omega arith) ∙ sym (le-ltb a b past)
    ]

lt_more : (a b : ℕ) → nat_lt a (b + 1) ≡ not (nat_lt b a)
lt_more a b =
    elim (cases_lt b a) [
      | inl below ↦ le-ltb a (b + 1) (omega arith) ∙ ap not (sym (lt-ltb b a below))
      | inr past ↦ lt-ltb a (b + 1) (omega arith) ∙ ap not (sym (le-ltb b a past))
    ]

pub start_covers : (cells : List Cell) (k : ℕ) (s : Start) → k < length cells → nat_le (covered_from cells s) k ≡ has_begun cells (k + 1) k s
start_covers cells k start.OfText within = le-leb 0 k (omega arith)
start_covers cells k (start.From (Before id)) within = le_lt (index_in id cells) k ∙ index_below id cells (k + 1) (omega arith)
start_covers cells k (start.From (After id)) within = le_more (index_in id cells) k ∙ index_below id cells k (omega arith)

pub end_covers : (cells : List Cell) (k : ℕ) (e : End) → k < length cells → nat_lt k (covered_to cells e) ≡ not (has_ended cells (k + 1) k e)
end_covers cells k end.OfText within = lt-ltb k (length cells) within
end_covers cells k (end.To (Before id)) within = lt_not k (index_in id cells) ∙ ap not (index_below id cells (k + 1) (omega arith))
end_covers cells k (end.To (After id)) within = lt_more k (index_in id cells) ∙ ap not (index_below id cells k (omega arith))

-- a mark operation covers the k-th cell where it has begun and not ended when that is reached
pub covering_reached : (cells : List Cell) (ms : List Marking) (k : ℕ) → k < length cells
    → filter (λ m. has_begun cells (k + 1) k m.start && not (has_ended cells (k + 1) k m.end)) ms ≡ covering cells ms k
covering_reached cells [] k within = refl
covering_reached cells (m ∷ ms) k within =
    let same : covers_cell cells k m ≡ (has_begun cells (k + 1) k m.start && not (has_ended cells (k + 1) k m.end)) =
    ap (λ b. b && nat_lt k (covered_to cells m.end)) (start_covers cells k m.start within)
    ∙ ap (λ b. has_begun cells (k + 1) k m.start && b) (end_covers cells k m.end within) in
    let rest = covering_reached cells ms k within in
    elim (cases_Bool (covers_cell cells k m)) [
      | inl e ↦ rw (e, sym same ∙ e) (ap (λ ns. m ∷ ns) rest)
      | inr e ↦ rw (e, sym same ∙ e) rest
    ]

-- an anchor is on this side of this character, and so is a start, or an end
abbrev anchor_at : Id → Bool → Anchor → Bool
anchor_at id is_after (Before other) = not is_after && is_same other id
anchor_at id is_after (After other) = is_after && is_same other id

abbrev starts_at : Id → Bool → Start → Bool
starts_at id is_after start.OfText = false
starts_at id is_after (start.From anchor) = anchor_at id is_after anchor

abbrev stops_at : Id → Bool → End → Bool
stops_at id is_after end.OfText = false
stops_at id is_after (end.To anchor) = anchor_at id is_after anchor

any_append : (p : Cell → Bool) (cs : List Cell) (c : Cell) → list_any p (cs ++ c ∷ []) ≡ (list_any p cs || p c)
any_append p [] c = or_false (p c)
any_append p (d ∷ cs) c = rw (any_append p cs c) (or_assoc (p d) (list_any p cs) (p c))

-- one more cell
cell_more : (cells : List Cell) (k : ℕ) (c : Cell) (id : Id) → slice_get cells k ≡ Some c
    → has_cell (take (k + 1) cells) id ≡ (has_cell (take k cells) id || is_same id c.id)
cell_more cells k c id there =
    rw (add-one, more cells k c there) (any_append (λ d. is_same d.id id) (take k cells) c ∙ ap (λ b. has_cell (take k cells) id || b) (same_back c.id id))

-- a cell is reached
pub begun_reached : (cells : List Cell) (k : ℕ) (c : Cell) (s : Start) → slice_get cells k ≡ Some c
    → (has_begun cells k k s || starts_at c.id false s) ≡ has_begun cells (k + 1) k s
begun_reached cells k c start.OfText there = refl
begun_reached cells k c (start.From (Before id)) there = sym (cell_more cells k c id there)
begun_reached cells k c (start.From (After id)) there = or_false (has_cell (take k cells) id)

pub ended_reached : (cells : List Cell) (k : ℕ) (c : Cell) (e : End) → slice_get cells k ≡ Some c
    → (has_ended cells k k e || stops_at c.id false e) ≡ has_ended cells (k + 1) k e
ended_reached cells k c end.OfText there = refl
ended_reached cells k c (end.To (Before id)) there = sym (cell_more cells k c id there)
ended_reached cells k c (end.To (After id)) there = or_false (has_cell (take k cells) id)

-- a cell is passed
pub begun_passed : (cells : List Cell) (k : ℕ) (c : Cell) (s : Start) → slice_get cells k ≡ Some c
    → (has_begun cells (k + 1) k s || starts_at c.id true s) ≡ has_begun cells (k + 1) (k + 1) s
begun_passed cells k c start.OfText there = refl
begun_passed cells k c (start.From (Before id)) there = or_false (has_cell (take (k + 1) cells) id)
begun_passed cells k c (start.From (After id)) there = sym (cell_more cells k c id there)

pub ended_passed : (cells : List Cell) (k : ℕ) (c : Cell) (e : End) → slice_get cells k ≡ Some c
    → (has_ended cells (k + 1) k e || stops_at c.id true e) ≡ has_ended cells (k + 1) (k + 1) e
ended_passed cells k c end.OfText there = refl
ended_passed cells k c (end.To (Before id)) there = or_false (has_cell (take (k + 1) cells) id)
ended_passed cells k c (end.To (After id)) there = sym (cell_more cells k c id there)

-- of the edges of an id, on one side
abbrev is_at : Id → Bool → Bool → ℕ → Edge → Bool
is_at id is_after is_end i e = is_same e.id id && is_edge is_after is_end i e

turned : (a b c : Bool) → (a && (b && c)) ≡ (c && (b && a))
turned true true true = refl
turned true true false = refl
turned true false true = refl
turned true false false = refl
turned false true true = refl
turned false true false = refl
turned false false true = refl
turned false false false = refl

-- the edge of a mark operation at an anchor
beside : (id : Id) (is_after is_end end_too : Bool) (i k : ℕ) (anchor : Anchor)
    → is_at id is_after is_end i (edge_beside anchor end_too k) ≡ ((is_same_bool end_too is_end && k == i) && anchor_at id is_after anchor)
beside id is_after is_end end_too i k (Before other) = turned (is_same other id) (not is_after) (is_same_bool end_too is_end && k == i)
beside id is_after is_end end_too i k (After other) = turned (is_same other id) is_after (is_same_bool end_too is_end && k == i)

of_start : (id : Id) (is_after : Bool) (i k : ℕ) (m : Marking) → list_any (is_at id is_after false i) (edges_of k m) ≡ ((k == i) && starts_at id is_after m.start)
of_start id is_after i k m =
    any_both (is_at id is_after false i) (start_edges k m.start) (end_edges k m.end)
    ∙ (ap (λ b. list_any (is_at id is_after false i) (start_edges k m.start) || b) (no_end m.end)
    ∙ (or_false (list_any (is_at id is_after false i) (start_edges k m.start)) ∙ here m.start))
  where
    no_end : (e : End) → list_any (is_at id is_after false i) (end_edges k e) ≡ false
    no_end end.OfText = refl
    no_end (end.To anchor) = or_false (is_at id is_after false i (edge_beside anchor true k)) ∙ beside id is_after false true i k anchor

    here : (s : Start) → list_any (is_at id is_after false i) (start_edges k s) ≡ ((k == i) && starts_at id is_after s)
    here start.OfText = sym (and_false (k == i))
    here (start.From anchor) = or_false (is_at id is_after false i (edge_beside anchor false k)) ∙ beside id is_after false false i k anchor

of_end : (id : Id) (is_after : Bool) (i k : ℕ) (m : Marking) → list_any (is_at id is_after true i) (edges_of k m) ≡ ((k == i) && stops_at id is_after m.end)
of_end id is_after i k m =
    any_both (is_at id is_after true i) (start_edges k m.start) (end_edges k m.end)
    ∙ (ap (λ b. b || list_any (is_at id is_after true i) (end_edges k m.end)) (no_start m.start) ∙ here m.end)
  where
    no_start : (s : Start) → list_any (is_at id is_after true i) (start_edges k s) ≡ false
    no_start start.OfText = refl
    no_start (start.From anchor) = or_false (is_at id is_after true i (edge_beside anchor false k)) ∙ beside id is_after true false i k anchor

    here : (e : End) → list_any (is_at id is_after true i) (end_edges k e) ≡ ((k == i) && stops_at id is_after e)
    here end.OfText = sym (and_false (k == i))
    here (end.To anchor) = or_false (is_at id is_after true i (edge_beside anchor true k)) ∙ beside id is_after true true i k anchor

-- edges that each mark operation has where it passes a test: none before the first, and each one's are its own
none_before : (p : ℕ → Edge → Bool) (at : Marking → Bool) (of : (i k : ℕ) (m : Marking) → list_any (p i) (edges_of k m) ≡ ((k == i) && at m))
    → (i k : ℕ) (ms : List Marking) → i < k → list_any (p i) (edges_from k ms) ≡ false
none_before p at of i k [] less = refl
none_before p at of i k (m ∷ ms) less =
    any_both (p i) (edges_of k m) (edges_from (k + 1) ms)
    ∙ rw (of i k m, ne_eqb k i (omega arith)) (none_before p at of i (k + 1) ms (omega arith))

each_own : (p : ℕ → Edge → Bool) (at : Marking → Bool) (of : (i k : ℕ) (m : Marking) → list_any (p i) (edges_of k m) ≡ ((k == i) && at m))
    → (k j : ℕ) (ms : List Marking) → list_any (p (k + j)) (edges_from k ms) ≡ passes at ms j
each_own p at of k j [] = refl
each_own p at of k zero (m ∷ ms) =
    let same : k + 0 ≡ k = omega arith in
    rw same (any_both (p k) (edges_of k m) (edges_from (k + 1) ms)
    ∙ rw (of k k m, eq-eqb k k refl, none_before p at of k (k + 1) ms (omega arith)) (or_false (at m)))
each_own p at of k (suc j) (m ∷ ms) =
    let same : k + suc j ≡ k + 1 + j = omega arith in
    rw same (any_both (p (k + 1 + j)) (edges_of k m) (edges_from (k + 1) ms)
    ∙ rw (of (k + 1 + j) k m, ne_eqb k (k + 1 + j) (omega arith)) (each_own p at of (k + 1) j ms))

edges_pass : (p : ℕ → Edge → Bool) (at : Marking → Bool) (of : (i k : ℕ) (m : Marking) → list_any (p i) (edges_of k m) ≡ ((k == i) && at m))
    → (ms : List Marking) (es : List Edge) (i : ℕ) → AreEdges ms es → list_any (p i) es ≡ passes at ms i
edges_pass p at of ms es i are =
    sym (list_any-IsPermutation (p i) (edges_from 0 ms) es are.all) ∙ (let same : 0 + i ≡ i = omega arith in rw same at (each_own p at of 0 i ms))

passes_or : (p q r : Marking → Bool) → ((m : Marking) → (p m || q m) ≡ r m) → (ms : List Marking) (i : ℕ) → (passes p ms i || passes q ms i) ≡ passes r ms i
passes_or p q r same [] i = refl
passes_or p q r same (m ∷ ms) zero = same m
passes_or p q r same (m ∷ ms) (suc i) = passes_or p q r same ms i

pub with_start : (p r : Marking → Bool) (id : Id) (is_after : Bool) → ((m : Marking) → (p m || starts_at id is_after m.start) ≡ r m)
    → (ms : List Marking) (es : List Edge) → AreEdges ms es → (i : ℕ)
    → with_edges is_after false (filter (λ e. is_same e.id id) es) (passes p ms) i ≡ passes r ms i
with_start p r id is_after same ms es are i =
    ap (λ b. passes p ms i || b) (any_filter (λ e. is_edge is_after false i e) (λ e. is_same e.id id) es
    ∙ edges_pass (λ j. is_at id is_after false j) (λ m. starts_at id is_after m.start) (λ j k m. of_start id is_after j k m) ms es i are)
    ∙ passes_or p (λ m. starts_at id is_after m.start) r same ms i

pub with_end : (p r : Marking → Bool) (id : Id) (is_after : Bool) → ((m : Marking) → (p m || stops_at id is_after m.end) ≡ r m)
    → (ms : List Marking) (es : List Edge) → AreEdges ms es → (i : ℕ)
    → with_edges is_after true (filter (λ e. is_same e.id id) es) (passes p ms) i ≡ passes r ms i
with_end p r id is_after same ms es are i =
    ap (λ b. passes p ms i || b) (any_filter (λ e. is_edge is_after true i e) (λ e. is_same e.id id) es
    ∙ edges_pass (λ j. is_at id is_after true j) (λ m. stops_at id is_after m.end) (λ j k m. of_end id is_after j k m) ms es i are)
    ∙ passes_or p (λ m. stops_at id is_after m.end) r same ms i

-- with the edges before a cell it is reached
pub has_reached : (a : Active) (cells : List Cell) (ms : List Marking) (es : List Edge) (k : ℕ) (c : Cell) → slice_get cells k ≡ Some c → AreEdges ms es
    → IsActive a (length ms) (with_edges false false (filter (λ e. is_same e.id c.id) es) (begun_at cells ms k k))
    (with_edges false true (filter (λ e. is_same e.id c.id) es) (ended_at cells ms k k))
    → IsActive a (length ms) (begun_at cells ms (k + 1) k) (ended_at cells ms (k + 1) k)
has_reached a cells ms es k c there edges are =
    active_same a (length ms) (with_edges false false (filter (λ e. is_same e.id c.id) es) (begun_at cells ms k k))
    (with_edges false true (filter (λ e. is_same e.id c.id) es) (ended_at cells ms k k)) (begun_at cells ms (k + 1) k) (ended_at cells ms (k + 1) k)
    (with_start (λ m. has_begun cells k k m.start) (λ m. has_begun cells (k + 1) k m.start) c.id false (λ m. begun_reached cells k c m.start there) ms es edges)
    (with_end (λ m. has_ended cells k k m.end) (λ m. has_ended cells (k + 1) k m.end) c.id false (λ m. ended_reached cells k c m.end there) ms es edges) are

-- and with those behind it, it is passed
pub passed : (a : Active) (cells : List Cell) (ms : List Marking) (es : List Edge) (k : ℕ) (c : Cell) → slice_get cells k ≡ Some c → AreEdges ms es
    → IsActive a (length ms) (with_edges true false (filter (λ e. is_same e.id c.id) es) (begun_at cells ms (k + 1) k))
    (with_edges true true (filter (λ e. is_same e.id c.id) es) (ended_at cells ms (k + 1) k))
    → IsActive a (length ms) (begun_at cells ms (k + 1) (k + 1)) (ended_at cells ms (k + 1) (k + 1))
passed a cells ms es k c there edges are =
    active_same a (length ms) (with_edges true false (filter (λ e. is_same e.id c.id) es) (begun_at cells ms (k + 1) k))
    (with_edges true true (filter (λ e. is_same e.id c.id) es) (ended_at cells ms (k + 1) k)) (begun_at cells ms (k + 1) (k + 1)) (ended_at cells ms (k + 1) (k + 1))
    (with_start (λ m. has_begun cells (k + 1) k m.start) (λ m. has_begun cells (k + 1) (k + 1) m.start) c.id true (λ m. begun_passed cells k c m.start there) ms es edges)
    (with_end (λ m. has_ended cells (k + 1) k m.end) (λ m. has_ended cells (k + 1) (k + 1) m.end) c.id true (λ m. ended_passed cells k c m.end there) ms es edges) are

pub within_cells : (cells : List Cell) (k : ℕ) (c : Cell) → slice_get cells k ≡ Some c → k < length cells
within_cells [] k c there = absurd (cc)
within_cells (d ∷ cells) zero c there = omega arith
within_cells (d ∷ cells) (suc k) c there = let rest = within_cells cells k c there in omega arith

-- where a cell is reached, the mark operations that are kept cover it
pub picked_covering : (a : Active) (cells : List Cell) (ms : List Marking) (k : ℕ) (c : Cell) → slice_get cells k ≡ Some c
    → IsActive a (length ms) (begun_at cells ms (k + 1) k) (ended_at cells ms (k + 1) k) → picked ms (kept a) ≡ covering cells ms k
picked_covering a cells ms k c there are =
    picked_active a ms (λ m. has_begun cells (k + 1) k m.start) (λ m. has_ended cells (k + 1) k m.end) are
    ∙ covering_reached cells ms k (within_cells cells k c there)

-- before the first cell
pub before_cells : (a : Active) (cells : List Cell) (ms : List Marking) → IsActive a (length ms) (passes is_from_start ms) (λ i. false)
    → IsActive a (length ms) (begun_at cells ms 0 0) (ended_at cells ms 0 0)
before_cells a cells ms are =
    active_same a (length ms) (passes is_from_start ms) (λ i. false) (begun_at cells ms 0 0) (ended_at cells ms 0 0) (first ms) (none ms) are
  where
    same_start : (s : Start) → has_begun [] 0 0 s ≡ has_begun cells 0 0 s
    same_start start.OfText = refl
    same_start (start.From (Before id)) = refl
    same_start (start.From (After id)) = refl

    not_ended : (e : End) → false ≡ has_ended cells 0 0 e
    not_ended end.OfText = refl
    not_ended (end.To (Before id)) = refl
    not_ended (end.To (After id)) = refl

    first : (ns : List Marking) (i : ℕ) → passes is_from_start ns i ≡ begun_at cells ns 0 0 i
    first [] i = refl
    first (n ∷ ns) zero = same_start n.start
    first (n ∷ ns) (suc i) = first ns i

    none : (ns : List Marking) (i : ℕ) → false ≡ ended_at cells ns 0 0 i
    none [] i = refl
    none (n ∷ ns) zero = not_ended n.end
    none (n ∷ ns) (suc i) = none ns i

long_take : (cells : List Cell) (k : ℕ) (c : Cell) → slice_get cells k ≡ Some c → length (take k cells) ≡ k
long_take [] k c there = absurd (cc)
long_take (d ∷ cells) zero c there = refl
long_take (d ∷ cells) (suc k) c there = let rest = long_take cells k c there in omega arith

-- the runs, where a cell is seen
pub runs_more : (cells : List Cell) (ms : List Marking) (k : ℕ) (c : Cell) (covers : List Marking) (before now : List Span) → slice_get cells k ≡ Some c
    → covers ≡ covering cells ms k → before ≡ cell_runs (λ i. marks_in (covering cells ms i)) 0 (take k cells)
    → now ≡ (if c.is_removed then before else with_back c.value (marks_in covers) before)
    → now ≡ cell_runs (λ i. marks_in (covering cells ms i)) 0 (take (k + 1) cells)
runs_more cells ms k c covers before now there is_covering is_before is_now =
    let at : ℕ → Marks = λ i. marks_in (covering cells ms i) in
    let last : take (k + 1) cells ≡ take k cells ++ c ∷ [] = rw add-one (more cells k c there) in
    let place : 0 + length (take k cells) ≡ k = let long = long_take cells k c there in omega arith in
    is_now
    ∙ (ap (λ ns. if c.is_removed then before else with_back c.value (marks_in ns) before) is_covering
    ∙ (ap (λ ss. if c.is_removed then ss else with_back c.value (at k) ss) is_before
    ∙ (ap (λ i. if c.is_removed then cell_runs at 0 (take k cells) else with_back c.value (at i) (cell_runs at 0 (take k cells))) (sym place)
    ∙ (sym (back_step at 0 (take k cells) c) ∙ ap (cell_runs at 0) (sym last)))))
