use Rattle.op_model.proofs.RisingLemmas.{placed}
use Rattle.op_model.proofs.rising.place_among.Goals as goal

pub returns : goal.returns
returns c = placed c.args.numbers.now c.args.number c.binary_search.result c.requires c.binary_search.ensures.position
