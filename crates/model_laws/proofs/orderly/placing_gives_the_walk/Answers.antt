use Rattle.model_laws.proofs.Ops.{orderly_placed}
use Rattle.model_laws.proofs.Closed.{closed_placed}
use Rattle.model_laws.proofs.orderly.placing_gives_the_walk.Goals as goal

pub returns : goal.returns
returns c = record { orderly = orderly_placed; closed = closed_placed }
