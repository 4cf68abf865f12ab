use Rattle.op_ids.proofs.IdLemmas.{below_irreflexive}
use Rattle.op_ids.proofs.laws.below_is_irreflexive.Goals as goal

pub returns : goal.returns
returns c = below_irreflexive c.args.a
