-- How many comment ids spans list, where a character comes behind them.
use Rattle.std.proofs.Common.{◌≡◌, ℕ, ◌+◌, ◌≤◌, Bool, true, false, inl, inr, if◌then◌else◌, List, [], ◌∷◌, ◌++◌, length, take, drop}
use Rattle.std.proofs.Common.{refl, ap, append_assoc, append-nil, arith}
use Rattle.std.proofs.lemmas.Bool.{cases_Bool}
use Rattle.std.proofs.lemmas.List.{take-append-drop}
use Rattle.op_model.specs.declared.mark.Marks.{Marks}
use Rattle.op_model.specs.declared.span.Span.{Span}
use Rattle.char_sequence.specs.declared.cell.Cell.{Cell}
use Rattle.span_flatten.specs.Listing.{listed}
use Rattle.span_flatten.specs.Runs.{cell_runs}
use Rattle.span_flatten.specs.Sweeping.{extended, is_last_same, with_back}
use Rattle.span_flatten.proofs.BackLemmas.{back_begun, back_joined, back_step}

-- the last one lists as many where a character joins it
pub listed_extended : (value : ℕ) (ss : List Span) → listed (extended value ss) ≡ listed ss
listed_extended value [] = refl
listed_extended value (s ∷ []) = refl
listed_extended value (s ∷ t ∷ ss) = ap (λ n. length s.marks.comments + n) (listed_extended value (t ∷ ss))

-- one more lists its own
pub listed_begun : (ss : List Span) (s : Span) → listed (ss ++ s ∷ []) ≡ listed ss + length s.marks.comments
listed_begun [] s = omega arith
listed_begun (t ∷ ss) s = let rest = listed_begun ss s in omega (arith, rest)

-- with a character behind them, spans list no fewer
listed_back : (value : ℕ) (marks : Marks) (ss : List Span) → listed ss ≤ listed (with_back value marks ss)
listed_back value marks ss = elim (cases_Bool (is_last_same marks ss)) [
  | inl same ↦ let joined = ap listed (back_joined value marks ss same) in let few = listed_extended value ss in omega arith
  | inr other ↦
      let begun = ap listed (back_begun value marks ss other) in
      let more = listed_begun ss (record { text = value ∷ []; marks = marks }) in
      omega arith
]

-- so do the runs of cells with one more
listed_step : (marks : ℕ → Marks) (cells : List Cell) (c : Cell) → listed (cell_runs marks 0 cells) ≤ listed (cell_runs marks 0 (cells ++ c ∷ []))
listed_step marks cells c =
    let step = ap listed (back_step marks 0 cells c) in
    let more = go c.is_removed in
    omega arith
  where
    go : (hidden : Bool) → listed (cell_runs marks 0 cells)
        ≤ listed (if hidden then cell_runs marks 0 cells else with_back c.value (marks (0 + length cells)) (cell_runs marks 0 cells))
    go true = omega arith
    go false = listed_back c.value (marks (0 + length cells)) (cell_runs marks 0 cells)

listed_behind : (marks : ℕ → Marks) (front back : List Cell) → listed (cell_runs marks 0 front) ≤ listed (cell_runs marks 0 (front ++ back))
listed_behind marks front [] = rw append-nil (omega arith)
listed_behind marks front (c ∷ back) =
    let one = listed_step marks front c in
    let rest = rw append_assoc at (listed_behind marks (front ++ c ∷ []) back) in
    omega arith

-- and those of all cells list no fewer than those of the first ones
pub listed_first : (marks : ℕ → Marks) (cells : List Cell) (k : ℕ) → listed (cell_runs marks 0 (take k cells)) ≤ listed (cell_runs marks 0 cells)
listed_first marks cells k = rw take-append-drop at (listed_behind marks (take k cells) (drop k cells))
