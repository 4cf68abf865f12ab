use Rattle.std.proofs.Common.{◌≡◌, ◌++◌, drop}
use Rattle.replica_core.proofs.FrontLemmas.{made_in_front, recounted}
use Rattle.replica_core.proofs.counting.clock_of_front.Given as goal

-- those that were passed are counted anew
abbrev pub invariant-loop-entry : goal.invariant-loop-entry
invariant-loop-entry l =
    recounted (made_in_front l.ops l.count) l.clock ≡ l.entries.items ++ recounted (made_in_front l.ops l.count) (drop l.entry-index l.entry-items)
