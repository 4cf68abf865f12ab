-- What meetings and device calls make of a flusher.
use Rattle.std.specs.Prelude.{◌≡◌, ◌↔◌, ◌≤◌, ℕ, List, ◌++◌}
use Rattle.disk_trait.specs.Calls.{LeavesOnly}
use Rattle.disk_trait.specs.declared.facts.DiskFacts.{Ghosts}
use Rattle.op_model.specs.declared.op.Op.{Op}
use Rattle.root_slots.specs.Root.{count_of, replica_of}
use Rattle.group_commit.specs.Commit.{IsRootOf}
use Rattle.group_commit.specs.Saved.{Saved}
use Rattle.hub_parts.specs.Fitting.{FitTogether, side_of}
use Rattle.hub_parts.specs.Flusher.{HasFront, IsFlusher, FlusherHeld}
use Rattle.hub_parts.specs.Locked.{IsLocked, LockedHeld}

-- the longer list begins with the other one
abbrev pub Extends : List Op → List Op → Type 0
Extends list longer = (more : List Op) × (longer ≡ list ++ more)

-- the file's live root is this replica's, and its stream spells the first operations of the list, at least so many
pub record HoldsFront (replica least : ℕ) (list : List Op) (file : List ℕ) : Type 0 where
  pub root : Saved
  pub holds : IsRootOf root file
  pub owner : replica_of root.body ≡ replica
  pub enough : least ≤ count_of root.body
  pub front : HasFront list root

-- After any meetings and device calls the flusher's list begins with the one that it had, and the live root is the same replica's and has
-- no fewer operations of it. So has each file that a crash left at any moment meanwhile.
pub record Goes {D : Type 0} (facts : Ghosts D) (old new : FlusherHeld D) : Type 0 where
  pub list : Extends old.list new.list
  pub live : count_of old.store.current.body ≤ count_of new.store.current.body
  pub owner : replica_of new.store.current.body ≡ replica_of old.store.current.body
  pub tells : facts.tells new.store.disk ↔ facts.tells old.store.disk
  pub moments : facts.tells old.store.disk → LeavesOnly facts old.store.disk new.store.disk
      (HoldsFront (replica_of old.store.current.body) (count_of old.store.current.body) new.list)

-- a sound locked part fits this flusher
pub record FitsSome {D : Type 0} (f : FlusherHeld D) : Type 0 where
  pub locked : LockedHeld
  pub sound : IsLocked locked
  pub fits : FitTogether locked (side_of f)

-- This disk is that of a flusher which has gone on from another one: whatever a crash leaves of it, or left at any moment since, has a
-- beginning of a list that begins with the other's list, and no fewer operations than the other's live root. What stood under the lock at the
-- end fits it.
pub record ComesBack {D : Type 0} (facts : Ghosts D) (old : FlusherHeld D) (handed_back : D) : Type 0 where
  pub flusher : FlusherHeld D
  pub disk : handed_back ≡ flusher.store.disk
  pub kept : IsFlusher facts flusher
  pub goes : Goes facts old flusher
  pub beside : FitsSome flusher
