use Rattle.std.proofs.Common.{drop, length, ap, ◌∙◌}
use Rattle.change_codec.proofs.StreamLaws.{length-spelled_all}
use Rattle.op_list.proofs.op_slice.OpSlice.length_from.Goals as goal

pub returns : goal.returns
returns c = ap length c.records_from.ensures.spelled_so ∙ length-spelled_all (drop c.args.n c.args.self.now)
