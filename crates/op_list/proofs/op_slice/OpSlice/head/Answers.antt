use Rattle.std.proofs.Common.{◌∙◌}
use Rattle.op_list.proofs.FirstRecord.{first_of, is_head, head_at}
use Rattle.op_list.proofs.op_slice.OpSlice.head.Goals as goal

pub record_head-requires : goal.record_head-requires
record_head-requires c =
    let first =
    first_of c.records_from.result.now c.args.self.now c.args.i c.requires
    c.records_from.ensures.fits c.records_from.ensures.spelled_so in
    (first.op, first.len, first.begins)

pub returns : goal.returns
returns c =
    let first =
    first_of c.records_from.result.now c.args.self.now c.args.i c.requires
    c.records_from.ensures.fits c.records_from.ensures.spelled_so in
    let head =
    c.of_record.ensures
    ∙ is_head c.record_head.result first.op (c.record_head.ensures first.op first.len first.begins)
    in
    head_at c.records_from.result.now c.args.self.now c.args.i c.of_record.result c.of_record.result
    first c.requires head
