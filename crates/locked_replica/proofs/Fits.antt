-- What two parts that fit keep together.
use Rattle.std.specs.Prelude.{◌≡◌, ℕ, ◌+◌, ◌<◌, ◌≤◌, Bool, true, false, List, length, take}
use Rattle.disk_trait.specs.declared.facts.DiskFacts.{Ghosts}
use Rattle.piece_codec.specs.Stream.{SpellsList}
use Rattle.op_model.specs.Held.{ReplicaHeld}
use Rattle.replica_core.specs.Held.{IsSound}
use Rattle.replica_core.specs.Steps.{places_left}
use Rattle.root_slots.specs.Root.{format_of, version_of, replica_of, count_of}
use Rattle.group_commit.specs.Begin.{is_idle}
use Rattle.group_commit.specs.Commit.{IsLeft}
use Rattle.group_commit.specs.Saved.{Saved}
use Rattle.hub_parts.specs.Locked.{due_behind, CanSettle}
use Rattle.locked_replica.specs.Hub.{Parts}

-- the root is this replica's, and its stream spells the first operations of the list in its format, as many as it says
pub record IsFront (h : ReplicaHeld) (root : Saved) : Type 0 where
  pub owner : replica_of root.body ≡ h.replica
  pub within : count_of root.body ≤ length h.list
  pub stream : SpellsList (format_of root.body) (take (count_of root.body) h.list) root.stream

-- the root that the commit under way makes is the next one, of more operations than the live one, which are settled
pub record IsUnderWay (h : ReplicaHeld) (current next : Saved) : Type 0 where
  pub settled : h.settled ≡ count_of current.body
  pub front : IsFront h next
  pub version : version_of next.body ≡ version_of current.body + 1
  pub owed : CanSettle h (count_of next.body)

-- no commit is under way: the live root's operations are settled, or those of a commit that is through and can be settled
pub record IsAtRest (h : ReplicaHeld) (current : Saved) : Type 0 where
  pub settled : h.settled ≤ count_of current.body
  pub through : h.settled < count_of current.body → CanSettle h (count_of current.body)
  pub places : h.settled ≡ count_of current.body → due_behind h h.settled ≤ places_left h.steps

-- the commit, if one is under way
abbrev pub CommitFits : Bool → ReplicaHeld → Saved → Saved → Type 0
CommitFits true h current next = IsAtRest h current
CommitFits false h current next = IsUnderWay h current next

-- what every hub keeps
pub record Fits {D : Type 0} (facts : Ghosts D) (hub : Parts D) : Type 0 where
  -- the list is causally closed, the kept steps replay, and what is acknowledged and told is settled
  pub sound : IsSound hub.replica
  -- the live root holds the first operations of the list
  pub live : IsFront hub.replica hub.store.current
  pub commit : CommitFits (is_idle hub.store.phase) hub.replica hub.store.current hub.store.next
  -- every file that a crash now may leave has the live root, or in the last phase the one that the commit makes
  pub left : facts.tells hub.store.disk → (c : List ℕ) → facts.survives hub.store.disk c
      → IsLeft hub.store.phase hub.store.current hub.store.next c

-- whether a failure is told or not
pub fits_told : {D : Type 0} (facts : Ghosts D) (hub : Parts D) (told : Bool) → Fits facts hub → Fits facts (record hub { failure_told = told })
fits_told facts hub told fits = record { sound = fits.sound; live = fits.live; commit = fits.commit; left = fits.left }
