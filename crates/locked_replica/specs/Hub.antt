-- A hub as contracts see it, and the state of the machine that it is in.
use Rattle.std.specs.Prelude.{ℕ, Bool, true, false, ◌&&◌, nat_lt, Option, Some, None, if◌then◌else◌}
use Rattle.root_slots.specs.Root.{version_of, count_of}
use Rattle.op_model.specs.Machine.{Commit, State}
use Rattle.op_model.specs.Held.{ReplicaHeld}
use Rattle.group_commit.specs.Begin.{is_idle}
use Rattle.group_commit.specs.Held.{StoreHeld}

-- what its replica and its store hold, and whether a meeting of the two has told a failure of the device
pub record Parts (D : Type 0) : Type 0 where
  pub replica : ReplicaHeld
  pub store : StoreHeld D
  pub failure_told : Bool

-- how many operations the live root has
abbrev pub committed : {D : Type 0} → StoreHeld D → ℕ
committed store = count_of store.current.body

-- A commit is under way, and has as many operations as the next root; or it is through, and not settled yet, where the live root
-- has more operations than are settled.
abbrev pub commit_in : Bool → ℕ → ℕ → ℕ → Option Commit
commit_in false settled live next = Some (record { count = next; through = false })
commit_in true settled live next = if nat_lt settled live then Some (record { count = live; through = true }) else None

-- the device calls of a commit are all made, and it isn't settled
abbrev pub is_through : {D : Type 0} → Parts D → Bool
is_through hub = is_idle hub.store.phase && nat_lt hub.replica.settled (committed hub.store)

-- the commit
abbrev pub commit_of : {D : Type 0} → ReplicaHeld → StoreHeld D → Option Commit
commit_of replica store = commit_in (is_idle store.phase) replica.settled (committed store) (count_of store.next.body)

-- the machine's state
abbrev pub state_of : {D : Type 0} → Parts D → State
state_of hub = record {
  held = hub.replica;
  version = version_of hub.store.current.body;
  failed = hub.store.failed;
  failure_told = hub.failure_told;
  commit = commit_of hub.replica hub.store;
}
