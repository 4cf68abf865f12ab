-- At most 64 are told.
use Rattle.std.proofs.Common.{◌≤◌, length}
use Rattle.thread_tests.proofs.test_ends.ListedPeer.tell.Given as goal

abbrev pub invariant-loop-op : goal.invariant-loop-op
invariant-loop-op l = length l.told.items ≤ 64
