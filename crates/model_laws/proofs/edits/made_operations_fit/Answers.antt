use Rattle.model_laws.proofs.Makes.{made_fit_in_turn}
use Rattle.model_laws.proofs.edits.made_operations_fit.Goals as goal

pub returns : goal.returns
returns c = made_fit_in_turn
