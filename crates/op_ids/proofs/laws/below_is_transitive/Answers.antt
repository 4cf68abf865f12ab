use Rattle.op_ids.proofs.IdLemmas.{below_transitive}
use Rattle.op_ids.proofs.laws.below_is_transitive.Goals as goal

pub returns : goal.returns
returns c = below_transitive c.args.a c.args.b c.args.c
