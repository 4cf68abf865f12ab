use Rattle.world_law.proofs.ClosedLists.{closed_take}
use Rattle.world_law.proofs.closed_lists.fronts_of_closed_lists_are_closed.Goals as goal

pub returns : goal.returns
returns c = closed_take
