use Rattle.model_laws.proofs.Told.{changes_taken, changes_given}
use Rattle.model_laws.proofs.changes.changes_go_over_the_text.Goals as goal

pub returns : goal.returns
returns c = record { taken = changes_taken; given = changes_given }
