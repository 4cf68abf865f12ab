use Rattle.op_list.proofs.FirstRecord.{begins_some, token_at}
use Rattle.op_list.proofs.op_slice.OpSlice.token.Goals as goal

pub record_token-requires : goal.record_token-requires
record_token-requires c =
    begins_some c.records_from.result.now c.args.self.now c.args.i c.requires c.records_from.ensures.fits c.records_from.ensures.spelled_so

pub returns : goal.returns
returns c =
    token_at c.records_from.result.now c.args.self.now c.args.i c.record_token.result c.record_token.result c.requires
    c.records_from.ensures.fits c.records_from.ensures.spelled_so c.record_token.ensures
