use Rattle.std.proofs.Common.{◌-◌, ◌≤◌, take, length}
use Rattle.replica_core.proofs.TellLemmas.{IsTold}
use Rattle.replica_core.proofs.telling.untold.Given as goal

-- what was found up to here
abbrev pub invariant-loop-next : goal.invariant-loop-next
invariant-loop-next l = record {
  told : IsTold l.peer (take l.settled l.ops) l.found.items l.from;
  within : l.from ≤ l.settled;
}

abbrev pub decreases-loop-next : goal.decreases-loop-next
decreases-loop-next l = 64 - length l.found.items
