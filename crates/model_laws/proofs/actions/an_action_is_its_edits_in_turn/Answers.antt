use Rattle.model_laws.proofs.InTurn.{action_single, in_turn-append, in_turn_numbered, none_refused_both, none_refused_first, none_refused_rest}
use Rattle.model_laws.proofs.actions.an_action_is_its_edits_in_turn.Goals as goal

pub returns : goal.returns
returns c = record {
  single = action_single;
  appended = in_turn-append;
  none_refused = λ ops replica doc token first more. (
    λ all. (none_refused_first ops replica doc token first more all, none_refused_rest ops replica doc token first more all),
    λ both. none_refused_both ops replica doc token first more both.0 both.1,
  );
  numbered = λ ops replica a. in_turn_numbered ops replica a.doc a.token a.changes;
}
