use Rattle.op_ids.proofs.IdLemmas.{same_from_test, test_from_same}
use Rattle.op_ids.proofs.laws.same_is_exact.Goals as goal

pub returns : goal.returns
returns c = (same_from_test c.args.a c.args.b, test_from_same c.args.a c.args.b)
