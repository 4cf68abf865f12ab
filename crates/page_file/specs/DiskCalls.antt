-- What calls do to a disk that tells as before.
use Rattle.std.specs.Prelude.{◌↔◌, ℕ, List, Result}
use Rattle.disk_trait.specs.Looks.{OnlyLooks}
use Rattle.disk_trait.specs.Writing.{Writes}
use Rattle.disk_trait.specs.declared.facts.DiskFacts.{Ghosts}

-- A disk was only looked at, by calls with this number of failures and this number of syncs, and it tells as before.
pub record IsLookedAt {D : Type 0} (facts : Ghosts D) (failures syncs : ℕ) (old new : D) : Type 0 where
  -- reads give the same, and a crash leaves no other file
  pub looks : facts.tells old → OnlyLooks facts failures syncs old new
  -- it tells as before
  pub tells : facts.tells new ↔ facts.tells old

-- One write of these bytes at a place of a disk, which tells as before.
pub record IsWrite {D T E : Type 0} (facts : Ghosts D) (result : Result T E) (at : ℕ) (bytes : List ℕ) (old new : D) : Type 0 where
  -- nothing changes outside of their range
  pub writes : facts.tells old → Writes facts result at bytes old new
  -- it tells as before
  pub tells : facts.tells new ↔ facts.tells old
