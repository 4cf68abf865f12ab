use Rattle.std.proofs.Common.{◌≡◌, ◌≤◌, length, drop}
use Rattle.op_model.specs.Text.{is_removed}
use Rattle.op_model.specs.Spans.{marks_of, runs}
use Rattle.slow_programs.proofs.spanning.spans.Given as goal

abbrev pub invariant-loop-k : goal.invariant-loop-k
invariant-loop-k l = record {
  within : l.k ≤ length l.walked.items;
  found : l.found.items ≡ runs (is_removed l.ops l.doc) (marks_of l.walked.items l.markings.items) l.k (drop l.k l.walked.items);
}

abbrev pub decreases-loop-k : goal.decreases-loop-k
decreases-loop-k l = l.k
