use Rattle.std.proofs.Common.{◌≡◌, ◌≤◌, ◌++◌, length, drop}
use Rattle.op_model.specs.Walk.{below}
use Rattle.slow_programs.proofs.order.+push_below.Given as goal

abbrev pub decreases-push_below : goal.decreases-push_below
decreases-push_below l = length l.inserts.now

abbrev pub invariant-loop-i : goal.invariant-loop-i
invariant-loop-i l = record {
  within : l.i ≤ length l.inserts;
  walked : l.walked.items ≡ l.fn.walked.items ++ below l.parent (drop l.i l.inserts);
}

abbrev pub decreases-loop-i : goal.decreases-loop-i
decreases-loop-i l = l.i
