use Rattle.std.proofs.Common.{◌≡◌, ◌≤◌, length, drop}
use Rattle.fixed_numbers.specs.declared.limits.TheConstants.{MAX_COUNTER}
use Rattle.op_model.specs.Made.{greatest_counter}
use Rattle.slow_programs.proofs.numbering.greatest_counter.Given as goal

abbrev pub invariant-loop-i : goal.invariant-loop-i
invariant-loop-i l = record {
  within : l.i ≤ length l.ops;
  greatest : l.greatest ≡ greatest_counter (drop l.i l.ops);
  in_range : l.greatest ≤ MAX_COUNTER;
}

abbrev pub decreases-loop-i : goal.decreases-loop-i
decreases-loop-i l = l.i
