use Rattle.model_laws.proofs.InTurnText.{in_turn_length, in_turn_other_text, in_turn_text}
use Rattle.model_laws.proofs.actions.actions_change_the_text.Goals as goal

pub returns : goal.returns
returns c = record {
  changed = λ ops replica a. in_turn_text ops replica a.doc a.token a.changes;
  long = λ ops replica a. in_turn_length ops replica a.doc a.token a.changes;
  others = λ ops replica a. in_turn_other_text ops replica a.doc a.token a.changes;
}
