use Rattle.model_laws.proofs.Told.{changes_joined, changes_some}
use Rattle.model_laws.proofs.changes.changes_are_joined.Goals as goal

pub returns : goal.returns
returns c = record { joined = changes_joined; some = changes_some }
