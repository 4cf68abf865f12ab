use Rattle.op_ids.proofs.ClockLemmas.{count_of-advanced_other}
use Rattle.op_ids.proofs.laws.advanced_keeps_others.Goals as goal

pub returns : goal.returns
returns c = count_of-advanced_other c.args.clock.now c.args.replica
