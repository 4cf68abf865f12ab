use Rattle.model_laws.proofs.InTurn.{in_turn_closed, in_turn_follow}
use Rattle.model_laws.proofs.InTurnText.{none_refused_within}
use Rattle.model_laws.proofs.actions.actions_keep_lists_closed.Goals as goal

pub returns : goal.returns
returns c = record {
  follow = λ ops replica a. in_turn_follow ops replica a.doc a.token a.changes;
  closed = λ ops replica a. in_turn_closed ops replica a.doc a.token a.changes;
  within = λ ops replica a. none_refused_within ops replica a.doc a.token a.changes;
}
