use Rattle.world_law.proofs.ClosedLists.{closed_one, closed_same, closed_counted, closed_at}
use Rattle.world_law.proofs.closed_lists.an_operation_has_one_place.Goals as goal

pub returns : goal.returns
returns c = record { by_id = closed_one; by_count = closed_same; counted = closed_counted; each = closed_at }
