use Rattle.model_laws.proofs.Again.{made_removes_nothing_again}
use Rattle.model_laws.proofs.edits.edits_remove_nothing_again.Goals as goal

pub returns : goal.returns
returns c = made_removes_nothing_again
