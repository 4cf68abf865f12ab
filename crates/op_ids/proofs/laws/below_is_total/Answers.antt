use Rattle.op_ids.proofs.IdLemmas.{below_total}
use Rattle.op_ids.proofs.laws.below_is_total.Goals as goal

pub returns : goal.returns
returns c = below_total c.args.a c.args.b
