-- What calls that write nothing do to a disk.
use Rattle.std.specs.Prelude.{◌≡◌, ℕ, ◌+◌, List}
use Rattle.disk_trait.specs.Calls.{LeavesOnly}
use Rattle.disk_trait.specs.declared.facts.DiskFacts.{Ghosts}

-- Calls that write nothing, of which more_failures failed and more_syncs are syncs: reads give the same, and a crash at any moment of
-- them leaves a file that it could leave before.
pub record OnlyLooks {D : Type 0} (facts : Ghosts D) (more_failures more_syncs : ℕ) (old new : D) : Type 0 where
  pub same : facts.content new ≡ facts.content old
  pub no_more : (c : List ℕ) → facts.survives new c → facts.survives old c
  pub moments : LeavesOnly facts old new (facts.survives old)
  pub failures : facts.failures new ≡ facts.failures old + more_failures
  pub writes : facts.writes new ≡ facts.writes old
  pub syncs : facts.syncs new ≡ facts.syncs old + more_syncs
