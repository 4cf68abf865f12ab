use Rattle.std.proofs.Common.{◌≡◌, ◌+◌, ◌≤◌, drop}
use Rattle.op_ids.specs.Clock.{missing_from}
use Rattle.op_ids.proofs.clock.Clock.missing_from.Given as goal

-- those found so far and those from here on are all
abbrev pub invariant-loop-entry : goal.invariant-loop-entry
invariant-loop-entry l =
    (missing_from l.self l.other ≡ l.missing + missing_from l.self (drop l.entry-index l.entry-items)) × (l.missing ≤ l.entry-index)
