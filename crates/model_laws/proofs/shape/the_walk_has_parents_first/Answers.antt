use Rattle.model_laws.proofs.Family.{walk_parents_first}
use Rattle.model_laws.proofs.shape.the_walk_has_parents_first.Goals as goal

pub returns : goal.returns
returns c = walk_parents_first
