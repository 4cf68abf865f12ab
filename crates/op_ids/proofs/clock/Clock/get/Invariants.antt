use Rattle.std.proofs.Common.{◌≡◌, drop}
use Rattle.op_ids.specs.Clock.{count_of}
use Rattle.op_ids.proofs.clock.Clock.get.Given as goal

-- what the clock counts is what its entries from here on count
abbrev pub invariant-loop-entry : goal.invariant-loop-entry
invariant-loop-entry l = count_of l.self l.replica ≡ count_of (drop l.entry-index l.entry-items) l.replica
