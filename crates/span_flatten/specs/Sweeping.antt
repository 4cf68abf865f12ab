-- Used by private functions and proofs alone.
--
-- What a pass over the characters of a document knows of its mark operations and its runs.
use Rattle.std.specs.Prelude.{◌≡◌, ℕ, ◌+◌, ◌<◌, ◌==◌, Bool, true, false, not, ◌&&◌, ◌||◌, nat_lt, if◌then◌else◌, List, [], ◌∷◌, length, take, map}
use Rattle.std.specs.Prelude.{◌++◌}
use Rattle.std.proofs.Common.{get_or, zero, suc}
use Rattle.std.specs.List.{list_any}
use Rattle.fixed_numbers.specs.declared.limits.TheConstants.{MAX_LISTED}
use Rattle.op_model.specs.declared.anchor.Anchor.TheVariants.{Before, After}
use Rattle.op_model.specs.declared.anchor.Start.{Start}
use Rattle.op_model.specs.declared.anchor.Start.TheVariants as start
use Rattle.op_model.specs.declared.anchor.End.{End}
use Rattle.op_model.specs.declared.anchor.End.TheVariants as end
use Rattle.op_model.specs.declared.mark.Marks.{Marks}
use Rattle.op_model.specs.declared.marking.Marking.{Marking}
use Rattle.op_model.specs.declared.span.Span.{Span}
use Rattle.op_model.specs.Spans.{is_same_bool, is_same_marks}
use Rattle.char_sequence.specs.declared.cell.Cell.{Cell}
use Rattle.char_sequence.specs.Cells.{has_cell}
use Rattle.mark_anchors.specs.declared.edge.Edge.{Edge}
use Rattle.span_flatten.specs.declared.active.Active.{Active}
use Rattle.span_flatten.specs.declared.run.Run.{Run}
use Rattle.span_flatten.specs.declared.sweep.Sweep.{Sweep}
use Rattle.span_flatten.specs.Covering.{covering}
use Rattle.span_flatten.specs.Deciding.{Decides, IsNoted}
use Rattle.span_flatten.specs.Formatting.{marks_in}
use Rattle.span_flatten.specs.Listing.{listed}
use Rattle.span_flatten.specs.Picking.{picked}
use Rattle.span_flatten.specs.Runs.{cell_runs}

-- where a given number of first cells were reached, and a given number of these passed, a mark operation with this start has begun
abbrev pub has_begun : List Cell → ℕ → ℕ → Start → Bool
has_begun cells reached passed start.OfText = true
has_begun cells reached passed (start.From (Before id)) = has_cell (take reached cells) id
has_begun cells reached passed (start.From (After id)) = has_cell (take passed cells) id

-- a mark operation with this end has ended there
abbrev pub has_ended : List Cell → ℕ → ℕ → End → Bool
has_ended cells reached passed end.OfText = false
has_ended cells reached passed (end.To (Before id)) = has_cell (take reached cells) id
has_ended cells reached passed (end.To (After id)) = has_cell (take passed cells) id

-- the i-th of these is there and passes a test
abbrev pub passes : {X : Type 0} → (X → Bool) → List X → ℕ → Bool
passes p [] i = false
passes p (m ∷ ms) zero = p m
passes p (m ∷ ms) (suc i) = passes p ms i

-- the i-th mark operation has begun there, and the i-th has ended there
abbrev pub begun_at : List Cell → List Marking → ℕ → ℕ → ℕ → Bool
begun_at cells ms reached passed = passes (λ m. has_begun cells reached passed m.start) ms

abbrev pub ended_at : List Cell → List Marking → ℕ → ℕ → ℕ → Bool
ended_at cells ms reached passed = passes (λ m. has_ended cells reached passed m.end) ms

-- the indexes of those that pass a test, where the first one's is given
abbrev pub indexes : {X : Type 0} → (X → Bool) → ℕ → List X → List ℕ
indexes p k [] = []
indexes p k (m ∷ ms) = if p m then k ∷ indexes p (k + 1) ms else indexes p (k + 1) ms

-- a mark operation that begins at the start of the text
abbrev pub is_from_start : Marking → Bool
is_from_start m = has_begun [] 0 0 m.start

-- the indexes of the flags that are set
abbrev pub flagged : List Bool → List ℕ
flagged flags = indexes (λ f. f) 0 flags

-- the indexes of the mark operations that have begun and not ended
abbrev pub kept : Active → List ℕ
kept a = flagged a.in_force.items

-- kept are which of n mark operations have ended, and which have begun and not ended
pub record IsActive (a : Active) (n : ℕ) (begun ended : ℕ → Bool) : Type 0 where
  pub long : length a.ended.items ≡ n
  pub wide : length a.in_force.items ≡ n
  pub flags : (i : ℕ) → i < n → get_or a.ended.items i true ≡ ended i
  pub members : (i : ℕ) → list_any (λ m. m == i) (kept a) ≡ (nat_lt i n && (begun i && not (ended i)))

-- the edge is the i-th mark operation's, on this side of its character, and an end or not
abbrev pub is_edge : Bool → Bool → ℕ → Edge → Bool
is_edge is_after is_end i e = is_same_bool e.is_after is_after && (is_same_bool e.is_end is_end && e.marking == i)

-- it was so before, or some of these edges make it so
abbrev pub with_edges : Bool → Bool → List Edge → (ℕ → Bool) → ℕ → Bool
with_edges is_after is_end es was i = was i || list_any (λ e. is_edge is_after is_end i e) es

-- the span of a run whose characters were taken from the first one on
abbrev pub forward_span : Run → Span
forward_span r = record { text = r.values.items; marks = r.marks }

-- spans with a character behind them: it joins the last one, if that has its marks
abbrev pub with_back : ℕ → Marks → List Span → List Span
with_back value marks [] = record { text = value ∷ []; marks = marks } ∷ []
with_back value marks (s ∷ []) =
    if is_same_marks s.marks marks then record { text = s.text ++ value ∷ []; marks = s.marks } ∷ []
    else s ∷ record { text = value ∷ []; marks = marks } ∷ []
with_back value marks (s ∷ t ∷ ss) = s ∷ with_back value marks (t ∷ ss)

-- the last of these spans has marks that are the same as these
abbrev pub is_last_same : Marks → List Span → Bool
is_last_same marks [] = false
is_last_same marks (s ∷ []) = is_same_marks s.marks marks
is_last_same marks (s ∷ t ∷ ss) = is_last_same marks (t ∷ ss)

-- the last of these spans with a character behind it
abbrev pub extended : ℕ → List Span → List Span
extended value [] = []
extended value (s ∷ []) = record { text = s.text ++ value ∷ []; marks = s.marks } ∷ []
extended value (s ∷ t ∷ ss) = s ∷ extended value (t ∷ ss)

-- there is a last one of these spans, and it has these marks
abbrev pub IsLast : Marks → List Span → Type 0
IsLast marks [] = ⊥
IsLast marks (s ∷ []) = s.marks ≡ marks
IsLast marks (s ∷ t ∷ ss) = IsLast marks (t ∷ ss)

-- unless the mark operations changed, the last run has the marks that these give
abbrev pub IsFresh : List Run → Bool → List ℕ → List Marking → Type 0
IsFresh runs is_changed set ms = is_changed ≡ false → IsLast (marks_in (picked ms set)) (map forward_span runs)

-- the comments that the last of these spans lists
abbrev pub last_comments : List Span → List ℕ
last_comments [] = []
last_comments (s ∷ []) = s.marks.comments
last_comments (s ∷ t ∷ ss) = last_comments (t ∷ ss)

-- the same mark operations have begun, and the same have ended
abbrev pub HasSameFlags : Active → Active → Type 0
HasSameFlags a b = (b.ended ≡ a.ended) × (b.in_force ≡ a.in_force)

-- kept is what decides by the mark operations that have begun and not ended; the last run lists what was noted, and it is fresh
pub record IsReady (s : Sweep) (ms : List Marking) : Type 0 where
  pub deciding : Decides s.active.deciding ms (kept s.active)
  pub noted : IsNoted s.active.deciding.comments (last_comments (map forward_span s.runs.items))
  pub fresh : IsFresh s.runs.items s.is_changed (kept s.active) ms

-- how many comment ids these runs list, and a given number more
abbrev pub listed_and : List Run → ℕ → ℕ
listed_and runs left = listed (map forward_span runs) + left

-- a visible character of this value behind the runs so far would list more comment ids than may yet be listed
abbrev pub ListsMore : Sweep → List Marking → ℕ → Type 0
ListsMore s ms value = IsReady s ms
    → listed_and s.runs.items s.left < listed (with_back value (marks_in (picked ms (kept s.active))) (map forward_span s.runs.items))

-- the first k of these cells were passed
pub record IsSwept (s : Sweep) (cells : List Cell) (ms : List Marking) (k : ℕ) : Type 0 where
  pub active : IsActive s.active (length ms) (begun_at cells ms k k) (ended_at cells ms k k)
  pub ready : IsReady s ms
  pub few : listed_and s.runs.items s.left ≡ MAX_LISTED
  pub runs : map forward_span s.runs.items ≡ cell_runs (λ i. marks_in (covering cells ms i)) 0 (take k cells)
