use Rattle.replica_core.proofs.CountLemmas.{room_behind}
use Rattle.replica_core.proofs.FollowLemmas.{count_more}
use Rattle.replica_core.proofs.counting.count_all.Goals as goal

pub advance-requires : goal.advance-requires
advance-requires c =
    rw c.replica.ensures
    (room_behind c.requires.0 c.args.ops.now c.loop-op.op-index c.op-item.result c.loop-op.clock c.requires.2 c.loop-op-test.true c.op-item.is
    (c.loop-op.invariant c.requires.0 c.requires.1))

pub loop-op-preserved : goal.loop-op-preserved
loop-op-preserved c = λ earlier same.
    count_more earlier c.args.ops.now c.loop-op.op-index c.op-item.result c.loop-op.clock c.advance.new.clock c.loop-op-test.true c.op-item.is
    (c.loop-op.invariant earlier same) (rw c.replica.ensures at c.in_ok-advance.ensures)
