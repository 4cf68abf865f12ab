use Rattle.model_laws.proofs.InTurnText.{in_turn_removes_nothing_again}
use Rattle.model_laws.proofs.actions.actions_remove_nothing_again.Goals as goal

pub returns : goal.returns
returns c = λ ops replica a. in_turn_removes_nothing_again ops replica a.doc a.token a.changes
