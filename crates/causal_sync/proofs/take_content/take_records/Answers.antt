use Rattle.std.proofs.Common.{arith}
use Rattle.causal_sync.proofs.Records.{records_length, count_range}
use Rattle.causal_sync.proofs.take_content.take_records.Goals as goal

pub new-requires-clause-some : goal.new-requires-clause-some
new-requires-clause-some c =
    let many = records_length c.in-Ok.count c.in-Ok.records.now c.in-Ok-take_each.pieces.items c.in-Ok-take_each.ensures in
    let range = count_range c.args.payload.now (c.in-Ok.count, c.in-Ok.records.now) c.in-Ok.ensures in
    omega (arith, many, range.0)

pub new-requires-clause-most : goal.new-requires-clause-most
new-requires-clause-most c =
    let many = records_length c.in-Ok.count c.in-Ok.records.now c.in-Ok-take_each.pieces.items c.in-Ok-take_each.ensures in
    let range = count_range c.args.payload.now (c.in-Ok.count, c.in-Ok.records.now) c.in-Ok.ensures in
    omega (arith, many, range.1)
