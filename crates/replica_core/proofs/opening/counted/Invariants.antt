use Rattle.std.proofs.Common.{◌≡◌, take}
use Rattle.replica_core.specs.Passing.{ArePassed}
use Rattle.replica_core.proofs.opening.counted.Given as goal

-- those that were read were passed
abbrev pub invariant-loop-i : goal.invariant-loop-i
invariant-loop-i l = record {
  read : l.reader ≡ record { list = l.list; at = l.i };
  passed : ArePassed l.passed l.replica (take l.i l.list);
}
