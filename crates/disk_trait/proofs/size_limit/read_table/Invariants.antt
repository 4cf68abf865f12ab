use Rattle.std.proofs.Common.{◌≤◌, length}
use Rattle.disk_trait.proofs.size_limit.read_table.Given as goal

-- no more was read than there is room
abbrev pub invariant-loop : goal.invariant-loop
invariant-loop g l = l.count ≤ length l.room
