use Rattle.model_laws.proofs.Closed.{closed_orderly, follows_fits}
use Rattle.model_laws.proofs.orderly.closed_lists_are_orderly.Goals as goal

pub returns : goal.returns
returns c = record { orderly = closed_orderly; fits = follows_fits }
