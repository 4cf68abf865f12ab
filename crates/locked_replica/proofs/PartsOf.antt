-- A hub, by what it holds.
use Rattle.std.specs.Prelude.{Bool}
use Rattle.op_model.specs.Held.{ReplicaHeld}
use Rattle.group_commit.specs.Held.{StoreHeld}
use Rattle.locked_replica.specs.Hub.{Parts}

-- a replica, a store, and whether a failure of the device is told
abbrev pub parts : {D : Type 0} → ReplicaHeld → StoreHeld D → Bool → Parts D
parts h s told = record { replica = h; store = s; failure_told = told }
