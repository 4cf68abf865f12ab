use Rattle.std.proofs.Common.{◌≡◌, drop, take}
use Rattle.std.specs.Prelude.{None}
use Rattle.run_list.specs.Runs.{last_behind}
use Rattle.run_list.proofs.Appending.{Going}
use Rattle.run_list.proofs.bare_list.BareList.copy_each.Given as goal

-- those up to the i-th are put, and the last one here is the last of them
abbrev pub invariant-loop-i : goal.invariant-loop-i
invariant-loop-i l = Going l.fn.self (drop l.n l.ops) (drop l.i l.ops) l.self × (last_behind None l.self ≡ last_behind None (take l.i l.ops))
