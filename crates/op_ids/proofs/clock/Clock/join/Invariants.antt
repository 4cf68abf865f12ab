use Rattle.std.proofs.Common.{◌≡◌, drop}
use Rattle.op_ids.specs.Clock.{joined}
use Rattle.op_ids.proofs.clock.Clock.join.Given as goal

-- what is joined already and the entries from here on give the whole
abbrev pub invariant-loop-entry : goal.invariant-loop-entry
invariant-loop-entry l = joined l.joined (drop l.entry-index l.entry-items) ≡ joined l.self l.other
