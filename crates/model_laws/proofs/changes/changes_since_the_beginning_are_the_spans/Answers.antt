use Rattle.model_laws.proofs.PutSince.{changes_since_none}
use Rattle.model_laws.proofs.changes.changes_since_the_beginning_are_the_spans.Goals as goal

pub returns : goal.returns
returns c = changes_since_none
