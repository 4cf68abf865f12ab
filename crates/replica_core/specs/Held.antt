-- What every replica keeps, and when nothing refuses an edit.
use Rattle.std.specs.Prelude.{◌≡◌, ◌+◌, ◌≤◌, length, take, None}
use Rattle.fixed_numbers.specs.declared.limits.TheConstants.{MAX_STEPS}
use Rattle.op_model.specs.Actions.{refusal_of, Asked}
use Rattle.op_model.specs.Causality.{IsCausallyClosed}
use Rattle.op_model.specs.Held.{ReplicaHeld}
use Rattle.op_model.specs.Replay.{Replays, settled_number}
use Rattle.replica_core.specs.Steps.{places_left}

-- nothing refuses an edit: its own causes don't, and there are places for its step and for two settlements
pub record CanEdit (h : ReplicaHeld) (e : Asked) : Type 0 where
  pub due : refusal_of h.list h.replica e ≡ None
  pub places : length h.steps + 3 ≤ MAX_STEPS

-- what every replica keeps
pub record IsSound (h : ReplicaHeld) : Type 0 where
  -- its list is causally closed
  pub closed : IsCausallyClosed h.list
  -- replaying the steps from the opened list gives the list and the settled number
  pub opened : h.opened ≤ length h.list
  pub replays : Replays h.replica (take h.opened h.list) h.steps h.list
  pub number : h.settled ≡ settled_number h.opened h.steps
  -- its numbers are in order
  pub settled : h.settled ≤ length h.list
  pub acked : h.acked ≤ h.settled
  pub told : h.told ≤ h.settled
  -- the settlements that are due have their places
  pub places : length h.steps + places_left h.steps ≤ MAX_STEPS
