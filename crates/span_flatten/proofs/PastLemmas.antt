-- The mark operations of before, which are the first ones of all, while characters are passed.
use Rattle.std.proofs.Common.{◌≡◌, ℕ, zero, suc, ◌+◌, ◌<◌, Bool, true, false, not, ◌&&◌, ◌||◌, nat_lt, inl, inr, List, [], ◌∷◌, ◌++◌, length}
use Rattle.std.proofs.Common.{Some, refl, sym, ◌∙◌, ap, arith}
use Rattle.std.specs.Prelude.{filter, slice_get}
use Rattle.std.specs.List.{list_any}
use Rattle.std.proofs.lemmas.Bool.{cases_lt, le-ltb}
use Rattle.op_ids.specs.Id.{is_same}
use Rattle.op_model.specs.declared.marking.Marking.{Marking}
use Rattle.char_sequence.specs.declared.cell.Cell.{Cell}
use Rattle.mark_anchors.specs.declared.edge.Edge.{Edge}
use Rattle.mark_anchors.specs.Edges.{AreEdges}
use Rattle.span_flatten.specs.declared.active.Active.{Active}
use Rattle.span_flatten.specs.Sweeping.{begun_at, ended_at, has_begun, has_ended, is_edge, passes, with_edges, IsActive}
use Rattle.span_flatten.proofs.PassLemmas.{begun_reached, ended_reached, begun_passed, ended_passed, with_start, with_end}

-- tests that agree on those that are there say the same
pub active_within : (a : Active) (n : ℕ) (begun ended begun_too ended_too : ℕ → Bool) → ((i : ℕ) → i < n → begun i ≡ begun_too i)
    → ((i : ℕ) → i < n → ended i ≡ ended_too i) → IsActive a n begun ended → IsActive a n begun_too ended_too
active_within a n begun ended begun_too ended_too same_begun same_ended are = record {
  long = are.long;
  wide = are.wide;
  flags = λ i within. are.flags i within ∙ same_ended i within;
  members = λ i. are.members i ∙ at i;
}
  where
    at : (i : ℕ) → (nat_lt i n && (begun i && not (ended i))) ≡ (nat_lt i n && (begun_too i && not (ended_too i)))
    at i =
        elim (cases_lt i n) [
          | inl within ↦ ap (λ b. nat_lt i n && (b && not (ended i))) (same_begun i within)
              ∙ ap (λ e. nat_lt i n && (begun_too i && not e)) (same_ended i within)
          | inr past ↦ rw (le-ltb i n past) refl
        ]

-- the first of these are there as they are alone
pub passes_front : (p : Marking → Bool) (olds news : List Marking) (i : ℕ) → i < length olds → passes p (olds ++ news) i ≡ passes p olds i
passes_front p [] news i within = absurd (omega arith)
passes_front p (m ∷ olds) news zero within = refl
passes_front p (m ∷ olds) news (suc i) within = passes_front p olds news i (omega arith)

with_front_edges : (is_after is_end : Bool) (p r : Marking → Bool) (olds news : List Marking) (es : List Edge)
    → ((i : ℕ) → with_edges is_after is_end es (passes p (olds ++ news)) i ≡ passes r (olds ++ news) i)
    → (i : ℕ) → i < length olds → with_edges is_after is_end es (passes p olds) i ≡ passes r olds i
with_front_edges is_after is_end p r olds news es all i within =
    ap (λ b. b || list_any (λ e. is_edge is_after is_end i e) es) (sym (passes_front p olds news i within))
    ∙ all i
    ∙ passes_front r olds news i within

module _ (a : Active) (cells : List Cell) (olds news : List Marking) (es : List Edge) (k : ℕ) (c : Cell) (there : slice_get cells k ≡ Some c)
    (edges : AreEdges (olds ++ news) es) where
  -- with the edges before a cell it is reached
  pub past_reached : IsActive a (length olds) (with_edges false false (filter (λ e. is_same e.id c.id) es) (begun_at cells olds k k))
      (with_edges false true (filter (λ e. is_same e.id c.id) es) (ended_at cells olds k k))
      → IsActive a (length olds) (begun_at cells olds (k + 1) k) (ended_at cells olds (k + 1) k)
  past_reached are =
      active_within a (length olds) (with_edges false false (filter (λ e. is_same e.id c.id) es) (begun_at cells olds k k))
      (with_edges false true (filter (λ e. is_same e.id c.id) es) (ended_at cells olds k k)) (begun_at cells olds (k + 1) k) (ended_at cells olds (k + 1) k)
      (with_front_edges false false (λ m. has_begun cells k k m.start) (λ m. has_begun cells (k + 1) k m.start) olds news (filter (λ e. is_same e.id c.id) es)
      (with_start (λ m. has_begun cells k k m.start) (λ m. has_begun cells (k + 1) k m.start) c.id false (λ m. begun_reached cells k c m.start there) (olds ++ news) es edges))
      (with_front_edges false true (λ m. has_ended cells k k m.end) (λ m. has_ended cells (k + 1) k m.end) olds news (filter (λ e. is_same e.id c.id) es)
      (with_end (λ m. has_ended cells k k m.end) (λ m. has_ended cells (k + 1) k m.end) c.id false (λ m. ended_reached cells k c m.end there) (olds ++ news) es edges))
      are

  -- and with those after it, it is passed
  pub past_passed : IsActive a (length olds) (with_edges true false (filter (λ e. is_same e.id c.id) es) (begun_at cells olds (k + 1) k))
      (with_edges true true (filter (λ e. is_same e.id c.id) es) (ended_at cells olds (k + 1) k))
      → IsActive a (length olds) (begun_at cells olds (k + 1) (k + 1)) (ended_at cells olds (k + 1) (k + 1))
  past_passed are =
      active_within a (length olds) (with_edges true false (filter (λ e. is_same e.id c.id) es) (begun_at cells olds (k + 1) k))
      (with_edges true true (filter (λ e. is_same e.id c.id) es) (ended_at cells olds (k + 1) k)) (begun_at cells olds (k + 1) (k + 1))
      (ended_at cells olds (k + 1) (k + 1))
      (with_front_edges true false (λ m. has_begun cells (k + 1) k m.start) (λ m. has_begun cells (k + 1) (k + 1) m.start) olds news
      (filter (λ e. is_same e.id c.id) es)
      (with_start (λ m. has_begun cells (k + 1) k m.start) (λ m. has_begun cells (k + 1) (k + 1) m.start) c.id true (λ m. begun_passed cells k c m.start there)
      (olds ++ news) es edges))
      (with_front_edges true true (λ m. has_ended cells (k + 1) k m.end) (λ m. has_ended cells (k + 1) (k + 1) m.end) olds news
      (filter (λ e. is_same e.id c.id) es)
      (with_end (λ m. has_ended cells (k + 1) k m.end) (λ m. has_ended cells (k + 1) (k + 1) m.end) c.id true (λ m. ended_passed cells k c m.end there)
      (olds ++ news) es edges))
      are
