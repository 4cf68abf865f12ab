use Rattle.std.proofs.Common.{◌≡◌, ◌++◌, drop}
use Rattle.run_list.proofs.run_slice.RunSlice.copy_from.Given as goal

-- what was copied, and what is left, are all from the n-th on
abbrev pub invariant-loop-i : goal.invariant-loop-i
invariant-loop-i l = l.ops.items ++ drop l.i l.self ≡ drop l.n l.self
