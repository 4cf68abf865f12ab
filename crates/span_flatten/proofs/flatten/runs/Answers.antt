use Rattle.std.proofs.Common.{◌≡◌, ℕ, ◌+◌, ◌-◌, map, drop, ap, sym, ◌∙◌, arith}
use Rattle.op_model.specs.declared.mark.Marks.{Marks}
use Rattle.op_model.specs.Spans.{with_front}
use Rattle.span_flatten.specs.Formatting.{marks_in}
use Rattle.span_flatten.specs.Runs.{cell_runs, marks_at, spans_of_runs}
use Rattle.span_flatten.proofs.RunLemmas.{cell_step}
use Rattle.span_flatten.proofs.flatten.runs.Goals as goal

pub loop-k-preserved-then-not-cell : goal.loop-k-preserved-then-not-cell
loop-k-preserved-then-not-cell c = record {
  within = omega arith;
  found = λ ops doc holds are.
      let at : ℕ → Marks = marks_at ops doc in
      let value = c.index-cells-k.result.value in
      let marks : c.in_ok-marks.marks ≡ at (c.loop-k.k - 1) =
      c.in_ok-marks.ensures ∙ ap (λ set. marks_in (map (λ m. m.now) set)) c.deref.ensures.value
      ∙ ap marks_in (c.in_ok-set.ensures ops doc holds are) in
      let next : c.loop-k.k - 1 + 1 ≡ c.loop-k.k = omega arith in
      let behind : spans_of_runs c.loop-k.found.items ≡ cell_runs at (c.loop-k.k - 1 + 1) (drop (c.loop-k.k - 1 + 1) c.args.cells.now) =
      c.loop-k.invariant.found ops doc holds are ∙ ap (λ k. cell_runs at k (drop k c.args.cells.now)) (sym next) in
      c.in_ok-put_before.ensures ∙ ap (λ of. with_front value of (spans_of_runs c.loop-k.found.items)) marks
      ∙ ap (λ ss. with_front value (at (c.loop-k.k - 1)) ss) behind
      ∙ cell_step at c.args.cells.now (c.loop-k.k - 1) c.index-cells-k.result (omega arith) c.index-cells-k.is c.if-not-cell.true;
}
