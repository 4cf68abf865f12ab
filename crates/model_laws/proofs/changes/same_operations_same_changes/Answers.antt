use Rattle.model_laws.proofs.SameChanges.{same_changes}
use Rattle.model_laws.proofs.changes.same_operations_same_changes.Goals as goal

pub returns : goal.returns
returns c = same_changes
