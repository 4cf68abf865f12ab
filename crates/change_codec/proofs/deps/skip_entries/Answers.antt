use Rattle.change_codec.specs.Reading.{only_rest, entries_at}
use Rattle.change_codec.proofs.Entries.{skips_on, skip_fails, skip_ends}
use Rattle.change_codec.proofs.deps.skip_entries.Goals as goal

pub returns-in-Err : goal.returns-in-Err
returns-in-Err c =
    skip_fails c.args.count c.loop.counter c.loop.left.low c.loop.left.rest.now c.in-Err.fault (only_rest (entries_at c.args.count 0 c.args.bytes.now)) c.loop-test.true c.in-Err.ensures.read c.loop.invariant

pub loop-preserved : goal.loop-preserved
loop-preserved c =
    rw c.in-Ok.ensures.low (skips_on c.args.count c.loop.counter c.loop.left.low c.loop.left.rest.now c.in-Ok.field-0-0 c.in-Ok.after.rest.now (only_rest (entries_at c.args.count 0 c.args.bytes.now)) c.loop-test.true c.in-Ok.ensures.read c.loop.invariant)

pub returns : goal.returns
returns c =
    skip_ends c.args.count c.loop.counter c.loop.left.low c.loop.left.rest.now (only_rest (entries_at c.args.count 0 c.args.bytes.now)) c.loop-test.false c.loop.invariant
