use Rattle.std.proofs.Common.{◌≡◌, drop}
use Rattle.op_ids.specs.Clock.{is_within}
use Rattle.op_ids.proofs.clock.Clock.is_within.Given as goal

-- the entries up to here are within the other clock, so those from here on decide
abbrev pub invariant-loop-entry : goal.invariant-loop-entry
invariant-loop-entry l = is_within l.self l.other ≡ is_within (drop l.entry-index l.entry-items) l.other
