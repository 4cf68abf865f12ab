-- The part of a hub that commits.
use Rattle.std.specs.Prelude.{◌≡◌, ℕ, ◌+◌, ◌≤◌, Bool, true, false, List, length, take}
use Rattle.disk_trait.specs.declared.facts.DiskFacts.{Ghosts}
use Rattle.op_model.specs.declared.op.Op.{Op}
use Rattle.piece_codec.specs.Stream.{SpellsList}
use Rattle.root_slots.specs.Root.{format_of, version_of, replica_of, count_of}
use Rattle.group_commit.specs.Begin.{is_idle}
use Rattle.group_commit.specs.Commit.{IsLeft}
use Rattle.group_commit.specs.Held.{StoreHeld}
use Rattle.group_commit.specs.Saved.{Saved}
pub use Rattle.group_commit.specs.Step.{IsStoreStep}

-- the store, the list of the commit or else the committed one, and whether there is a commit that isn't settled
pub record FlusherHeld (D : Type 0) : Type 0 where
  pub store : StoreHeld D
  pub list : List Op
  pub due : Bool

-- the root's stream spells the first operations of the list in its format, as many as it says
pub record HasFront (list : List Op) (root : Saved) : Type 0 where
  pub within : count_of root.body ≤ length list
  pub stream : SpellsList (format_of root.body) (take (count_of root.body) list) root.stream

-- between two commits the live root has the whole list
pub record IsAtRest {D : Type 0} (f : FlusherHeld D) : Type 0 where
  pub all : count_of f.store.current.body ≡ length f.list

-- a commit is under way: the root that it makes follows the live one, and has the whole list
pub record IsUnderWay {D : Type 0} (f : FlusherHeld D) : Type 0 where
  pub due : f.due ≡ true
  pub all : count_of f.store.next.body ≡ length f.list
  pub front : HasFront f.list f.store.next
  pub owner : replica_of f.store.next.body ≡ replica_of f.store.current.body
  pub version : version_of f.store.next.body ≡ version_of f.store.current.body + 1

-- at rest, or with a commit under way
abbrev pub RestsOrCommits : {D : Type 0} → Bool → FlusherHeld D → Type 0
RestsOrCommits true f = IsAtRest f
RestsOrCommits false f = IsUnderWay f

-- What every flusher keeps: a file that a crash now may leave has the live root, or in the last phase the one that the commit
-- makes, and each of them has a beginning of the list.
pub record IsFlusher {D : Type 0} (facts : Ghosts D) (f : FlusherHeld D) : Type 0 where
  pub live : HasFront f.list f.store.current
  pub commit : RestsOrCommits (is_idle f.store.phase) f
  pub left : facts.tells f.store.disk → (file : List ℕ) → facts.survives f.store.disk file
      → IsLeft f.store.phase f.store.current f.store.next file
