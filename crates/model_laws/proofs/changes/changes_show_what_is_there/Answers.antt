use Rattle.model_laws.proofs.Told.{changes_applied, changes_spans}
use Rattle.model_laws.proofs.Followed.{changes_followed}
use Rattle.model_laws.proofs.changes.changes_show_what_is_there.Goals as goal

pub returns : goal.returns
returns c = record { applied = changes_applied; spans = changes_spans; followed = changes_followed }
