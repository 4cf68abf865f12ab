use Rattle.world_law.proofs.Clauses.{one_operation, told_once}
use Rattle.world_law.proofs.histories.ids_name_one_operation.Goals as goal

pub returns : goal.returns
returns c = record { held = one_operation; told = told_once }
