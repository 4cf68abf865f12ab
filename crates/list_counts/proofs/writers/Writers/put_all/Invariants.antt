use Rattle.std.proofs.Common.{◌≡◌, take}
use Rattle.list_counts.specs.Documents.{with_all}
use Rattle.list_counts.proofs.writers.Writers.put_all.Given as goal

-- the replicas of the operations so far are put
abbrev pub invariant-loop-op : goal.invariant-loop-op
invariant-loop-op l = l.self ≡ with_all l.fn.self (take l.op-index l.ops)
