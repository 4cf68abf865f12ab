-- A sync of a disk that tells as before.
use Rattle.std.specs.Prelude.{◌↔◌, Result, OnOk, OnErr}
use Rattle.disk_trait.specs.Calls.{IsOneCall, Settles, Keeps}
use Rattle.disk_trait.specs.Writing.{failures_in}
use Rattle.disk_trait.specs.declared.facts.DiskFacts.{Ghosts}

-- One sync. Where it succeeds, a crash leaves what reads give, and else what it could leave before.
pub record IsSync {D T E : Type 0} (facts : Ghosts D) (result : Result T E) (old new : D) : Type 0 where
  pub settled : facts.tells old → OnOk result (Settles facts old new)
  pub unsettled : facts.tells old → OnErr result (Keeps facts old new)
  pub call : facts.tells old → IsOneCall facts (failures_in result) 0 1 old new
  -- it tells as before
  pub tells : facts.tells new ↔ facts.tells old
