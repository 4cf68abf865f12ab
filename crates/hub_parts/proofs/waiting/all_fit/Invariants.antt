use Rattle.std.proofs.Common.{◌≤◌, length, drop}
use Rattle.change_codec.specs.Stream.{AreOperations}
use Rattle.hub_parts.proofs.waiting.all_fit.Given as goal

abbrev pub invariant-loop-i : goal.invariant-loop-i
invariant-loop-i l = record {
  within : l.i ≤ length l.ops;
  rest : AreOperations (drop l.i l.ops);
}

abbrev pub decreases-loop-i : goal.decreases-loop-i
decreases-loop-i l = l.i
