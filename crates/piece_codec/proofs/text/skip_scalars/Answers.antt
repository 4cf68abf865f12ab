use Rattle.change_codec.specs.Reading.{only_rest}
use Rattle.piece_codec.specs.Reading.{scalars_at}
use Rattle.piece_codec.proofs.Scalars.{skips_on, skip_fails, skip_ends}
use Rattle.piece_codec.proofs.text.skip_scalars.Goals as goal

pub returns-in-Err : goal.returns-in-Err
returns-in-Err c =
    skip_fails c.args.count c.loop.counter c.loop.rest.now c.in-Err.fault (only_rest (scalars_at c.args.count c.args.bytes.now)) c.loop-test.true c.in-Err.ensures c.loop.invariant

pub loop-preserved : goal.loop-preserved
loop-preserved c =
    skips_on c.args.count c.loop.counter c.loop.rest.now c.in-Ok.field-0-0 c.in-Ok.after.now (only_rest (scalars_at c.args.count c.args.bytes.now)) c.loop-test.true c.in-Ok.ensures c.loop.invariant

pub returns : goal.returns
returns c =
    skip_ends c.args.count c.loop.counter c.loop.rest.now (only_rest (scalars_at c.args.count c.args.bytes.now)) c.loop-test.false c.loop.invariant
