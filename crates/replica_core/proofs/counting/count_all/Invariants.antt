use Rattle.std.proofs.Common.{◌≡◌, List, ◌++◌, take}
use Rattle.op_model.specs.declared.op.Op.{Op}
use Rattle.op_model.specs.Causality.{clock_of}
use Rattle.replica_core.proofs.counting.count_all.Given as goal

-- those that were passed are counted
abbrev pub invariant-loop-op : goal.invariant-loop-op
invariant-loop-op l = (earlier : List Op) → l.fn.clock ≡ clock_of earlier → l.clock ≡ clock_of (earlier ++ take l.op-index l.ops)
