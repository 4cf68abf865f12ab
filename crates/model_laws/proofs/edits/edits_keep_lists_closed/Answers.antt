use Rattle.model_laws.proofs.Makes.{made_follow, closed_made}
use Rattle.model_laws.proofs.edits.edits_keep_lists_closed.Goals as goal

pub returns : goal.returns
returns c = record { follow = made_follow; closed = closed_made }
