use Rattle.std.proofs.Common.{arith}
use Rattle.std.proofs.lemmas.Bool.Decides.{nat_tests}
use Rattle.op_ids.specs.Id.{is_below}
use Rattle.op_ids.proofs.op_id.OpId.is_below.Goals as goal

pub returns : goal.returns
unfolding is_below
returns c = grind (arith, nat_tests)
