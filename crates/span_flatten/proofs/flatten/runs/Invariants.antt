use Rattle.std.proofs.Common.{◌≡◌, ◌≤◌, ℕ, List, length, drop}
use Rattle.op_model.specs.declared.op.Op.{Op}
use Rattle.char_sequence.specs.Content.{Holds}
use Rattle.mark_anchors.specs.Keeping.{AreMarksOf}
use Rattle.span_flatten.specs.Runs.{cell_runs, marks_at, spans_of_runs}
use Rattle.span_flatten.proofs.flatten.runs.Given as goal

abbrev pub invariant-loop-k : goal.invariant-loop-k
invariant-loop-k l = record {
  within : l.k ≤ length l.cells;
  found : (ops : List Op) (doc : ℕ) → Holds l.sequence ops doc → AreMarksOf l.anchors ops doc
      → spans_of_runs l.found.items ≡ cell_runs (marks_at ops doc) l.k (drop l.k l.cells);
}

abbrev pub decreases-loop-k : goal.decreases-loop-k
decreases-loop-k l = l.k
