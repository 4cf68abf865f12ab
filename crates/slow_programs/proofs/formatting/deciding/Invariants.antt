use Rattle.std.proofs.Common.{◌≡◌, ◌≤◌, length, drop}
use Rattle.std.specs.Option.{option_copied}
use Rattle.op_model.specs.Spans.{deciding}
use Rattle.slow_programs.proofs.formatting.deciding.Given as goal

abbrev pub invariant-loop-i : goal.invariant-loop-i
invariant-loop-i l = record {
  within : l.i ≤ length l.markings;
  best : option_copied l.best ≡ deciding l.characters (drop l.i l.markings) l.k l.key;
}

abbrev pub decreases-loop-i : goal.decreases-loop-i
decreases-loop-i l = l.i
