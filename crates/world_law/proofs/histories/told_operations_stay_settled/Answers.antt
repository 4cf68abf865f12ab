use Rattle.world_law.proofs.Clauses.{settled}
use Rattle.world_law.proofs.histories.told_operations_stay_settled.Goals as goal

pub returns : goal.returns
returns c = settled
