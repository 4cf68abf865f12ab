use Rattle.std.proofs.Common.{◌≡◌, drop}
use Rattle.op_ids.specs.Clock.{is_rising_above}
use Rattle.op_ids.proofs.clock.are_entries.Given as goal

-- the entries rise exactly where those from here on rise from above the last replica
abbrev pub invariant-loop-entry : goal.invariant-loop-entry
invariant-loop-entry l = is_rising_above 0 l.entries ≡ is_rising_above l.low (drop l.entry-index l.entries)
