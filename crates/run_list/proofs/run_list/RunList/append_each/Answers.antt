use Rattle.std.proofs.Common.{refl, arith}
use Rattle.run_list.proofs.Appending.{going_begins, going_on, all_put, next_of_list, none_left}
use Rattle.run_list.proofs.run_list.RunList.append_each.Goals as goal

pub loop-op-init : goal.loop-op-init
loop-op-init c = going_begins _ _ _ refl

pub loop-op-preserved : goal.loop-op-preserved
loop-op-preserved c =
    going_on _ _ _ _ _ _ _ c.loop-op.invariant (next_of_list c.args.ops.now c.loop-op.op-index c.op-item.result c.op-item.is (omega arith)) c.in_ok-push.ensures.ok

pub returns-clause-ok : goal.returns-clause-ok
returns-clause-ok c = all_put _ _ _ _ c.loop-op.invariant (none_left c.args.ops.now c.loop-op.op-index (omega arith))
