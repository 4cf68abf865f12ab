use Rattle.std.proofs.Common.{◌≡◌}
use Rattle.store_tests.proofs.run_tests.is_read.Given as goal

-- so many operations of the list were read
abbrev pub invariant-loop-i : goal.invariant-loop-i
invariant-loop-i l = l.reader ≡ record { list = l.runs.list; at = l.i }
