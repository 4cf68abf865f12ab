-- Used by private functions and proofs alone.
--
-- Runs of cells with equal marks.
use Rattle.std.specs.Prelude.{ℕ, ◌+◌, ◌*◌, if◌then◌else◌, List, [], ◌∷◌, map, reverse}
use Rattle.op_model.specs.declared.mark.Marks.{Marks}
use Rattle.op_model.specs.declared.marking.Marking.{Marking}
use Rattle.op_model.specs.declared.span.Span.{Span}
use Rattle.op_model.specs.declared.op.Op.{Op}
use Rattle.op_model.specs.Marks.{markings}
use Rattle.op_model.specs.Spans.{with_front}
use Rattle.op_model.specs.Walk.{walk}
use Rattle.char_sequence.specs.declared.cell.Cell.{Cell}
use Rattle.span_flatten.specs.declared.run.Run.{Run}
use Rattle.mark_anchors.specs.Force.{in_force}
use Rattle.span_flatten.specs.Covering.{covering}
use Rattle.span_flatten.specs.Formatting.{marks_in}

-- the greatest runs with equal marks of the visible ones among cells that begin at the k-th
abbrev pub cell_runs : (ℕ → Marks) → ℕ → List Cell → List Span
cell_runs marks k [] = []
cell_runs marks k (c ∷ cs) =
    if c.is_removed then cell_runs marks (k + 1) cs else with_front c.value (marks k) (cell_runs marks (k + 1) cs)

-- the greatest runs of the visible ones among these cells
abbrev pub cell_spans : List Cell → List Marking → List Span
cell_spans cells ms = cell_runs (λ k. marks_in (covering cells ms k)) 0 cells

-- the marks that the k-th character of a document has by the mark operations that are in force just before it
abbrev pub marks_at : List Op → ℕ → ℕ → Marks
marks_at ops doc k = marks_in (in_force (walk ops doc) (2 * k + 1) (markings ops doc))

-- the span of a run whose characters were taken from the last one on
abbrev pub span_of : Run → Span
span_of r = record { text = reverse r.values.items; marks = r.marks }

-- the spans of runs that were taken from the last one on
abbrev pub spans_of_runs : List Run → List Span
spans_of_runs rs = map span_of (reverse rs)
