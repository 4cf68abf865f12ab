use Rattle.std.proofs.Common.{inl, arith}
use Rattle.change_codec.specs.Reading.{only_value, entries_at}
use Rattle.change_codec.proofs.Entries.{collects_on, collect_fails, collect_ends}
use Rattle.change_codec.proofs.deps.collect_entries.Goals as goal

pub returns-in-Err : goal.returns-in-Err
returns-in-Err c =
    inl (collect_fails c.loop.entries.items c.args.count c.loop.counter c.loop.left.low c.loop.left.rest.now c.in-Err.fault (only_value (entries_at c.args.count 0 c.args.bytes.now)) c.loop-test.true c.in-Err.ensures.read c.loop.invariant.all)

pub loop-preserved : goal.loop-preserved
loop-preserved c =
    record {
      all = rw (c.push_reserved.ensures.items, c.in-Ok.ensures.low) (collects_on c.loop.entries.items c.args.count c.loop.counter c.loop.left.low c.loop.left.rest.now c.in-Ok.entry c.in-Ok.after.rest.now (only_value (entries_at c.args.count 0 c.args.bytes.now)) c.loop-test.true c.in-Ok.ensures.read c.loop.invariant.all);
      room = omega (arith, c.push_reserved.ensures.len, c.push_reserved.ensures.capacity, c.loop.invariant.room);
    }

pub returns : goal.returns
returns c =
    collect_ends c.loop.entries.items c.args.count c.loop.counter c.loop.left.low c.loop.left.rest.now (only_value (entries_at c.args.count 0 c.args.bytes.now)) c.loop-test.false c.loop.invariant.all
