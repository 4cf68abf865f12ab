use Rattle.std.proofs.Common.{inl, arith}
use Rattle.change_codec.specs.Reading.{only_value}
use Rattle.piece_codec.specs.Reading.{scalars_at}
use Rattle.piece_codec.proofs.Scalars.{collects_on, collect_fails, collect_ends}
use Rattle.piece_codec.proofs.text.collect_scalars.Goals as goal

pub returns-in-Err : goal.returns-in-Err
returns-in-Err c =
    inl (collect_fails c.loop.values.items c.args.count c.loop.counter c.loop.rest.now c.in-Err.fault (only_value (scalars_at c.args.count c.args.bytes.now)) c.loop-test.true c.in-Err.ensures c.loop.invariant.all)

pub loop-preserved : goal.loop-preserved
loop-preserved c =
    record {
      all = rw c.push_reserved.ensures.items (collects_on c.loop.values.items c.args.count c.loop.counter c.loop.rest.now c.in-Ok.value c.in-Ok.after.now (only_value (scalars_at c.args.count c.args.bytes.now)) c.loop-test.true c.in-Ok.ensures c.loop.invariant.all);
      room = omega (arith, c.push_reserved.ensures.len, c.push_reserved.ensures.capacity, c.loop.invariant.room);
    }

pub returns : goal.returns
returns c =
    collect_ends c.loop.values.items c.args.count c.loop.counter c.loop.rest.now (only_value (scalars_at c.args.count c.args.bytes.now)) c.loop-test.false c.loop.invariant.all
