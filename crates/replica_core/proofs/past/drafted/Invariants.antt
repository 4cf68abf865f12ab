use Rattle.std.proofs.Common.{◌-◌, length}
use Rattle.replica_core.specs.Drafted.{IsDrafted}
use Rattle.replica_core.proofs.past.drafted.Given as goal

abbrev pub invariant-loop-left : goal.invariant-loop-left
invariant-loop-left l = IsDrafted l.draft l.list l.doc l.count l.left l.next

abbrev pub decreases-loop-left : goal.decreases-loop-left
decreases-loop-left l = length l.list - l.next
