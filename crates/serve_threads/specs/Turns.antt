-- How a daemon serves one file turn after turn.
use Rattle.std.specs.Prelude.{◌≡◌, ℕ, List, take}
use Rattle.disk_trait.specs.declared.facts.DiskFacts.{Ghosts}
use Rattle.group_commit.specs.Opening.{IsLoaded, IsLookedAt}
use Rattle.hub_parts.specs.Flusher.{FlusherHeld}
use Rattle.hub_parts.specs.Locked.{LockedHeld}
use Rattle.hub_parts.specs.Opening.{IsOpened}
use Rattle.shared_hub.specs.Crashes.{HoldsImage}
use Rattle.shared_hub.specs.Going.{ComesBack}

-- this flusher is that of a hub which was opened from the disk: it has the live root of its file, and all operations of that; the disk was
-- only looked at
pub record Reopens {D : Type 0} (facts : Ghosts D) (disk : D) (f : FlusherHeld D) : Type 0 where
  pub locked : LockedHeld
  pub opened : IsOpened locked f
  pub loaded : IsLoaded facts disk f.store locked.replica.replica locked.replica.list
  pub looked : IsLookedAt facts 0 1 disk f.store.disk

-- The disk was handed back by the last of some turns: the first one served the hub of the flusher `first`, each later one a hub that
-- was opened from the disk which the turn before had handed back.
pub data Turns {D : Type 0} (facts : Ghosts D) (first : FlusherHeld D) : D → Type 0 where
  one : (disk : D) → ComesBack facts first disk → Turns facts first disk
  more : (before : D) (f : FlusherHeld D) (disk : D) → Turns facts first before → Reopens facts before f → ComesBack facts f disk
      → Turns facts first disk

-- no turn followed the one that handed this disk back, since it couldn't be opened: nothing was written in the try
pub record IsNotOpened {D : Type 0} (facts : Ghosts D) (first : FlusherHeld D) (failures : ℕ) (disk : D) : Type 0 where
  pub before : D
  pub turns : Turns facts first before
  pub looked : IsLookedAt facts failures 1 before disk

-- a turn after the one that handed back a disk begins with this flusher: the next one, or one after a turn that came later itself
pub data Later {D : Type 0} (facts : Ghosts D) (disk : D) : FlusherHeld D → Type 0 where
  next : (f : FlusherHeld D) → Reopens facts disk f → Later facts disk f
  after : (f : FlusherHeld D) (between : D) (g : FlusherHeld D) → Later facts disk f → ComesBack facts f between → Reopens facts between g
      → Later facts disk g

-- the image of the file has, of the same replica, the operations that were settled under a lock, and they still begin the list under a
-- later one
pub record StillHolds (before later : LockedHeld) (file : List ℕ) : Type 0 where
  pub owner : later.replica.replica ≡ before.replica.replica
  pub same : take before.replica.settled later.replica.list ≡ take before.replica.settled before.replica.list
  pub holds : HoldsImage later.replica before.replica.settled file
