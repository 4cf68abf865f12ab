use Rattle.std.proofs.Common.{inl, inr, sym, ◌∙◌, arith}
use Rattle.causal_sync.specs.Reading.{records_at}
use Rattle.causal_sync.proofs.Records.{records_on, record_fails, records_left, records_all}
use Rattle.causal_sync.proofs.take_content.take_each.Goals as goal

pub returns-in-Err : goal.returns-in-Err
returns-in-Err c =
    elim c.in-Err.ensures [
      | inl read ↦ inl (record_fails c.loop.pieces.items c.args.count c.loop.counter c.loop.rest.now c.in-Err.fault (records_at c.args.count c.args.records.now) c.loop-test.true read c.loop.invariant.all)
      | inr memory ↦ inr memory
    ]

pub loop-preserved : goal.loop-preserved
loop-preserved c =
    record {
      all = rw c.push_reserved.ensures.items (records_on c.loop.pieces.items c.args.count c.loop.counter c.loop.rest.now c.in-Ok-take_record.piece c.in-Ok-take_record.after.now (records_at c.args.count c.args.records.now) c.loop-test.true c.in-Ok-take_record.ensures c.loop.invariant.all);
      room = omega (arith, c.push_reserved.ensures.len, c.push_reserved.ensures.capacity, c.loop.invariant.room);
    }

pub returns-then-not-is_empty : goal.returns-then-not-is_empty
returns-then-not-is_empty c =
    inl (records_left c.loop.pieces.items c.args.count c.loop.counter c.loop.rest.now (records_at c.args.count c.args.records.now) c.loop-test.false (sym c.is_empty.ensures ∙ c.if-not-is_empty.true) c.loop.invariant.all)

pub returns : goal.returns
returns c =
    records_all c.loop.pieces.items c.args.count c.loop.counter c.loop.rest.now (records_at c.args.count c.args.records.now) c.loop-test.false (sym c.is_empty.ensures ∙ c.if-not-is_empty.false) c.loop.invariant.all
