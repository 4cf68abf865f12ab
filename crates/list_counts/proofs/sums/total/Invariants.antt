use Rattle.std.proofs.Common.{◌≡◌, ◌+◌, ◌≤◌, drop}
use Rattle.op_ids.specs.Clock.{total_of}
use Rattle.list_counts.proofs.sums.total.Given as goal

-- what is summed up so far and what is left are all, which is small
abbrev pub invariant-loop-entry : goal.invariant-loop-entry
invariant-loop-entry l =
    (total_of l.clock ≡ l.total + total_of (drop l.entry-index l.entry-items)) × (total_of l.clock ≤ 268435456)
