-- What opens the two parts of a hub.
use Rattle.std.specs.Prelude.{◌≡◌, false, length}
use Rattle.op_model.specs.Held.{opened_with}
use Rattle.group_commit.specs.declared.phase.Phase.TheVariants.{Idle}
use Rattle.hub_parts.specs.Flusher.{FlusherHeld}
use Rattle.hub_parts.specs.Locked.{LockedHeld}
use Rattle.hub_parts.specs.Fitting.{FitTogether, side_of}

-- two parts right after opening: all is settled, no commit is under way, no device call has failed, and the two fit
pub record IsOpened {D : Type 0} (l : LockedHeld) (f : FlusherHeld D) : Type 0 where
  pub locked : l ≡ record {
    replica = opened_with l.replica.replica l.replica.list;
    begun = length l.replica.list;
    failure_told = false;
  }
  pub idle : f.store.phase ≡ Idle
  pub works : f.store.failed ≡ false
  pub fits : FitTogether l (side_of f)
