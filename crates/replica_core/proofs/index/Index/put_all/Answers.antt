use Rattle.std.proofs.Common.{◌++◌, take, length-append, arith}
use Rattle.std.proofs.lemmas.List.{length-take-le}
use Rattle.replica_core.proofs.IndexLemmas.{index_more, stream_rest, own_at}
use Rattle.replica_core.proofs.index.Index.put_all.Goals as goal

pub put-requires-clause-room : goal.put-requires-clause-room
put-requires-clause-room c =
    let own = own_at c.args.replica c.args.ops.now c.loop-op.op-index c.op-item.result c.requires.own c.loop-op-test.true c.op-item.is in
    let room = c.loop-op.invariant.room in
    let here = c.loop-op-test.true in
    rw own (omega arith)

pub put-requires-clause-small : goal.put-requires-clause-small
put-requires-clause-small c =
    let rest = stream_rest c.args.ops.now c.loop-op.op-index c.op-item.result c.loop-op-test.true c.op-item.is in
    let all = c.loop-op.invariant.stream in
    let small = c.requires.small in
    omega arith

pub loop-op-preserved : goal.loop-op-preserved
loop-op-preserved c =
    let own = own_at c.args.replica c.args.ops.now c.loop-op.op-index c.op-item.result c.requires.own c.loop-op-test.true c.op-item.is in
    let rest = stream_rest c.args.ops.now c.loop-op.op-index c.op-item.result c.loop-op-test.true c.op-item.is in
    record {
      index = λ earlier is long.
          let many = length-take-le c.loop-op.op-index c.args.ops.now (omega arith) in
          let both = length-append earlier (take c.loop-op.op-index c.args.ops.now) in
          let next = c.loop-op.invariant.next in
          index_more c.put.new.self earlier c.args.ops.now c.loop-op.op-index c.op-item.result c.loop-op-test.true c.op-item.is
          (c.put.ensures.index (earlier ++ take c.loop-op.op-index c.args.ops.now) (c.loop-op.invariant.index earlier is long) (omega arith));
      room = let more = rw own at c.put.ensures.room in let room = c.loop-op.invariant.room in omega arith;
      stream = let more = c.put.ensures.stream in let all = c.loop-op.invariant.stream in omega arith;
      next = let next = c.loop-op.invariant.next in omega arith;
    }
