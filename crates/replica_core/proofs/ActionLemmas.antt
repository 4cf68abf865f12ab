-- What an action makes that nothing refuses.
use Rattle.std.proofs.Common.{◌≡◌, ℕ, ◌+◌, ◌<◌, ◌≤◌, true, List, ◌++◌, length, arith, ◌∙◌, ap}
use Rattle.char_sequence.specs.Content.{FitAfter}
use Rattle.doc_core.proofs.FittingLemmas.{numbered_fit}
use Rattle.edit_tokens.proofs.EditLemmas.{tokens_numbered}
use Rattle.edit_tokens.specs.declared.place.Place.{Place}
use Rattle.edit_tokens.specs.Places.{AreTokens, Puts}
use Rattle.model_laws.proofs.EditLimits.{length-numbered}
use Rattle.model_laws.proofs.InTurn.{in_turn_follow, in_turn_numbered}
use Rattle.model_laws.proofs.InTurnText.{in_turn_own, in_turn_removes_nothing_again, none_refused_closed, none_refused_within}
use Rattle.model_laws.proofs.RoomInTurn.{action_not_refused}
use Rattle.model_laws.specs.Acting.{bodies_in_turn, NoneRefused}
use Rattle.model_laws.specs.Since.{RemoveNothingAgain}
use Rattle.op_model.specs.Actions.{made_by_action, refusal_of, Asked}
use Rattle.op_model.specs.Causality.{clock_of, documents, made_by, is_within_limits, IsCausallyClosed}
use Rattle.op_model.specs.declared.op.Op.{Op}
use Rattle.op_model.specs.Made.{greatest_counter, numbered}
use Rattle.op_model.specs.Spans.{with_number}
use Rattle.op_model.specs.Text.{rev}
use Rattle.std.specs.Prelude.{None, Some}
use Rattle.replica_core.proofs.LimitLemmas.{documents-numbered}
use Rattle.replica_core.proofs.SoundLemmas.{list_fits}

module _ (ops : List Op) (replica : ℕ) (a : Asked) (closed : IsCausallyClosed ops) (due : refusal_of ops replica a ≡ None) where
  -- nothing refuses its changes one after another
  pub in_turn : NoneRefused ops replica a.doc a.token a.changes
  in_turn = action_not_refused ops replica a closed due

  -- the list stays causally closed
  pub closed_with : IsCausallyClosed (ops ++ made_by_action ops replica a)
  closed_with = none_refused_closed ops replica a.doc a.token a.changes closed in_turn

  -- and keeps the limits
  pub within : is_within_limits (ops ++ made_by_action ops replica a) ≡ true
  within = none_refused_within ops replica a.doc a.token a.changes closed in_turn

  -- so it has room
  pub fits : length ops + length (made_by_action ops replica a) ≤ 16777216
  fits = list_fits ops (made_by_action ops replica a) within

  -- its operations fit the document one after another
  pub fit : FitAfter ops a.doc (made_by_action ops replica a)
  fit =
      let follow = in_turn_follow ops replica a.doc a.token a.changes within in
      let same = in_turn_numbered ops replica a.doc a.token a.changes in
      rw same (numbered_fit ops replica a.doc a.token (greatest_counter ops + 1) (clock_of ops) (bodies_in_turn ops replica a.doc a.token a.changes) (rw same at follow))

  -- and remove nothing again
  pub removes_nothing_again : RemoveNothingAgain ops (made_by_action ops replica a)
  removes_nothing_again = in_turn_removes_nothing_again ops replica a.doc a.token a.changes closed in_turn

-- they are the replica's own
pub action_own : (ops : List Op) (replica : ℕ) (a : Asked) → made_by replica (made_by_action ops replica a) ≡ made_by_action ops replica a
action_own ops replica a = in_turn_own ops replica a.doc a.token a.changes

-- the documents with the action's, where it makes some operation
pub action_documents : (ops : List Op) (replica : ℕ) (a : Asked) → 0 < length (made_by_action ops replica a)
    → documents (ops ++ made_by_action ops replica a) ≡ with_number a.doc (documents ops)
action_documents ops replica a some =
    let bodies = bodies_in_turn ops replica a.doc a.token a.changes in
    let same = in_turn_numbered ops replica a.doc a.token a.changes in
    let many = length-numbered replica a.doc a.token (greatest_counter ops + 1) (clock_of ops) bodies in
    let there : 0 < length (numbered replica a.doc a.token (greatest_counter ops + 1) (clock_of ops) bodies) = rw same at some in
    ap (λ more. documents (ops ++ more)) same
    ∙ documents-numbered ops replica a.doc a.token (greatest_counter ops + 1) (clock_of ops) bodies (omega arith)

-- an action has its place kept for its token
pub action_tokens : (old new : List (ℕ × Place)) (replica : ℕ) (ops : List Op) (a : Asked) (place : Place) → 0 < length (made_by_action ops replica a)
    → place.end ≡ length (ops ++ made_by_action ops replica a) → place.rev ≡ rev (ops ++ made_by_action ops replica a) a.doc → Puts a.token (Some place) old new
    → AreTokens old replica ops → AreTokens new replica (ops ++ made_by_action ops replica a)
action_tokens old new replica ops a place some end revs puts are =
    let same = in_turn_numbered ops replica a.doc a.token a.changes in
    rw same (tokens_numbered old new replica a.doc a.token (greatest_counter ops + 1) (clock_of ops) (bodies_in_turn ops replica a.doc a.token a.changes) ops place
    (rw same at some) (rw same at end) (rw same at revs) puts are)
