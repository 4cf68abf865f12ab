use Rattle.causal_sync.proofs.Told.{told_is_frame}
use Rattle.causal_sync.proofs.laws.operations_are_told_in_one_frame.Goals as goal

pub returns : goal.returns
returns c = told_is_frame
