use Rattle.std.proofs.Common.{take, nat_lt}
use Rattle.op_ids.specs.Clock.{count_of}
use Rattle.replica_core.specs.Telling.{IsNextUntold}
use Rattle.replica_core.proofs.telling.next_untold.Given as goal

-- it is the next one of the replicas that were passed
abbrev pub invariant-loop-entry : goal.invariant-loop-entry
invariant-loop-entry l =
    IsNextUntold l.peer (λ op. nat_lt 0 (count_of (take l.entry-index l.entry-items) op.id.replica)) l.ops l.from l.next
