-- What the opening of a hub's file anew makes of the hub.
use Rattle.std.specs.Prelude.{◌≡◌}
use Rattle.disk_trait.specs.declared.facts.DiskFacts.{Ghosts}
use Rattle.op_model.specs.Machine.{CrashLeaves}
use Rattle.recovery.specs.Image.{IsImage}
use Rattle.root_slots.specs.Root.{version_of}
use Rattle.locked_replica.specs.Hub.{Parts, state_of}

-- The same replica goes on with the image of the file as it read; that is what the machine's crash leaves.
pub record IsReopened {D : Type 0} (facts : Ghosts D) (old new : Parts D) : Type 0 where
  pub owner : new.replica.replica ≡ old.replica.replica
  pub image : IsImage (facts.content old.store.disk) new.replica.replica (version_of new.store.current.body) new.replica.list
  pub crash : CrashLeaves (state_of old) (state_of new)
