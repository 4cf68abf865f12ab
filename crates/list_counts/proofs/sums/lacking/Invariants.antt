use Rattle.std.proofs.Common.{◌≡◌, ◌+◌, ◌≤◌, drop}
use Rattle.list_counts.specs.Counts.{lacking}
use Rattle.list_counts.proofs.sums.lacking.Given as goal

-- what is summed up so far and what is left are all, which is small
abbrev pub invariant-loop-entry : goal.invariant-loop-entry
invariant-loop-entry l =
    (lacking l.clock l.here ≡ l.lacks + lacking l.clock (drop l.entry-index l.entry-items))
    × (lacking l.clock l.here ≤ 268435456)
