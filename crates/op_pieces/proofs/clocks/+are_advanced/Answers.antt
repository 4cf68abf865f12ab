use Rattle.op_pieces.proofs.AdvancedLemmas.{none_advanced}
use Rattle.op_pieces.proofs.clocks.+are_advanced.Goals as goal

pub returns-in_default : goal.returns-in_default
returns-in_default t c = none_advanced c.args.entries.now c.args.others.now c.args.replica c.in_default.len_below
