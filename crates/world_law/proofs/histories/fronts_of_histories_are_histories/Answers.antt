use Rattle.world_law.proofs.Worlds.{history_fronts}
use Rattle.world_law.proofs.histories.fronts_of_histories_are_histories.Goals as goal

pub returns : goal.returns
returns c = history_fronts
