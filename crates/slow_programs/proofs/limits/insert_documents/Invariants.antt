use Rattle.std.proofs.Common.{◌≡◌, ◌≤◌, ◌++◌, List, length, drop}
use Rattle.op_model.specs.declared.op.Op.{Op}
use Rattle.op_model.specs.Causality.{documents}
use Rattle.op_model.specs.Rising.{IsUp}
use Rattle.slow_programs.proofs.limits.insert_documents.Given as goal

abbrev pub invariant-loop-i : goal.invariant-loop-i
invariant-loop-i l = record {
  within : l.i ≤ length l.ops;
  up : IsUp l.found.items;
  found : (behind : List Op) → l.fn.found.items ≡ documents behind → l.found.items ≡ documents (drop l.i l.ops ++ behind);
}

abbrev pub decreases-loop-i : goal.decreases-loop-i
decreases-loop-i l = l.i
