-- What a crash leaves of a hub.
use Rattle.std.specs.Prelude.{◌⊎◌, ℕ, ◌+◌, ◌≤◌, Bool, true, false, List, length, take, Contains, Option, Some, None}
use Rattle.op_model.specs.Machine.{Commit, CrashLeaves, opened}
use Rattle.op_model.specs.Held.{ReplicaHeld}
use Rattle.op_model.specs.Replay.{reached}
use Rattle.root_slots.specs.Root.{version_of}
use Rattle.recovery.specs.Image.{IsImage}
use Rattle.group_commit.specs.declared.phase.Phase.{Phase}
use Rattle.group_commit.specs.declared.phase.Phase.TheVariants.{Sync3}
use Rattle.locked_replica.specs.Hub.{Parts, commit_of, state_of}

-- the file's image is the first count operations of the list, in this version
abbrev pub HasImageOfFront : ReplicaHeld → ℕ → ℕ → List ℕ → Type 0
HasImageOfFront h version count file = IsImage file h.replica version (take count h.list)

-- the gate of a commit under way is written, and may be on the disk or not
abbrev pub is_gated : Phase → Bool
is_gated Sync3 = true
is_gated phase = false

-- With a commit of count operations, through or not, and gated or not: one that is through is what the image has; one that isn't
-- leaves the settled list, or where its gate is written either one.
abbrev pub RecoversWith : Bool → Bool → ReplicaHeld → ℕ → ℕ → List ℕ → Type 0
RecoversWith true gated h version count file = HasImageOfFront h version count file
RecoversWith false true h version count file = HasImageOfFront h version h.settled file ⊎ HasImageOfFront h (version + 1) count file
RecoversWith false false h version count file = HasImageOfFront h version h.settled file

-- without a commit it is the settled list
abbrev pub RecoversIn : Bool → ReplicaHeld → ℕ → Option Commit → List ℕ → Type 0
RecoversIn gated h version None file = HasImageOfFront h version h.settled file
RecoversIn gated h version (Some c) file = RecoversWith c.through gated h version c.count file

-- The image of a file that a crash leaves of a hub: the settled list, or that of the commit.
abbrev pub Recovers : {D : Type 0} → Parts D → List ℕ → Type 0
Recovers hub file =
    RecoversIn (is_gated hub.store.phase) hub.replica (version_of hub.store.current.body) (commit_of hub.replica hub.store) file

-- what is opened from the file is what the machine's crash leaves
pub record IsCrash {D : Type 0} (hub : Parts D) (file : List ℕ) : Type 0 where
  pub version : ℕ
  pub count : ℕ
  pub image : IsImage file hub.replica.replica version (take count hub.replica.list)
  pub leaves : CrashLeaves (state_of hub) (opened hub.replica.replica (take count hub.replica.list) version)

-- the image of the file is a beginning of the list, of at least n operations, at which a step ended: so no edit is in it in part
pub record HasAtLeast (n : ℕ) (h : ReplicaHeld) (file : List ℕ) : Type 0 where
  pub version : ℕ
  pub count : ℕ
  pub enough : n ≤ count
  pub within : count ≤ length h.list
  pub whole : Contains (reached h.opened h.steps) count
  pub image : IsImage file h.replica version (take count h.list)
