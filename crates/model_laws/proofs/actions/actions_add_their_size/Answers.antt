use Rattle.model_laws.proofs.InTurnText.{in_turn_others, in_turn_rev, in_turn_size}
use Rattle.model_laws.proofs.actions.actions_add_their_size.Goals as goal

pub returns : goal.returns
returns c = record {
  many = λ ops replica a. in_turn_size ops replica a.doc a.token a.changes;
  rev = λ ops replica a. in_turn_rev ops replica a.doc a.token a.changes;
  others = λ ops replica a. in_turn_others ops replica a.doc a.token a.changes;
}
