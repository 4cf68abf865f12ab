use Rattle.model_laws.proofs.InTurn.{in_turn_above, in_turn_fit}
use Rattle.model_laws.proofs.InTurnText.{in_turn_for}
use Rattle.model_laws.proofs.actions.made_by_actions_fit.Goals as goal

pub returns : goal.returns
returns c = record {
  fit = λ ops replica a. in_turn_fit ops replica a.doc a.token a.changes;
  greater = λ ops replica a. in_turn_above ops replica a.doc a.token a.changes;
  signed = λ ops replica a. in_turn_for ops replica a.doc a.token a.changes;
}
