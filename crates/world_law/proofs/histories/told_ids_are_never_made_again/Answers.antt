use Rattle.world_law.proofs.Clauses.{never_again}
use Rattle.world_law.proofs.histories.told_ids_are_never_made_again.Goals as goal

pub returns : goal.returns
returns c = never_again
