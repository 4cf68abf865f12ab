use Rattle.std.proofs.Common.{◌≡◌, ◌≤◌, length, drop}
use Rattle.op_model.specs.Spans.{comment_ids}
use Rattle.slow_programs.proofs.formatting.comment_ids.Given as goal

abbrev pub invariant-loop-i : goal.invariant-loop-i
invariant-loop-i l = record {
  within : l.i ≤ length l.markings;
  ids : l.ids.items ≡ comment_ids (drop l.i l.markings);
}

abbrev pub decreases-loop-i : goal.decreases-loop-i
decreases-loop-i l = l.i
