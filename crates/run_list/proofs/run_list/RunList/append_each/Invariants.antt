use Rattle.std.proofs.Common.{drop}
use Rattle.run_list.proofs.Appending.{Going}
use Rattle.run_list.proofs.run_list.RunList.append_each.Given as goal

abbrev pub invariant-loop-op : goal.invariant-loop-op
invariant-loop-op l = Going l.fn.self l.ops (drop l.op-index l.ops) l.self
