-- A desk over a hub that is held alone.
use Rattle.std.specs.Prelude.{ℕ, Bool}
use Rattle.locked_replica.specs.Hub.{Parts}

-- what its hub holds, the session that its edits are steps of, and whether it was asked to stop
pub record HeldDesk (D : Type 0) : Type 0 where
  pub hub : Parts D
  pub session : ℕ
  pub stopping : Bool
