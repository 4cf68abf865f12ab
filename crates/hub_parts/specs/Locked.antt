-- The part of a hub that stands under the lock.
use Rattle.std.specs.Prelude.{◌≡◌, ℕ, ◌+◌, ◌≤◌, ◌<◌, Bool, false, nat_lt, if◌then◌else◌, List, length, take, drop, Contains, Option, Some, None}
use Rattle.fixed_numbers.specs.declared.limits.TheConstants.{MAX_PENDING}
use Rattle.op_model.specs.Machine.{Commit, State}
use Rattle.op_model.specs.Replay.{reached}
use Rattle.op_model.specs.Held.{ReplicaHeld}
use Rattle.op_model.specs.Records.{stream_length}
use Rattle.op_model.specs.Waiting.{waiting_length}
use Rattle.piece_codec.specs.Stream.{SpellsList}
use Rattle.group_commit.specs.Plan.{newest}
use Rattle.replica_core.specs.Held.{IsSound}
use Rattle.replica_core.specs.Steps.{places_left}

-- the replica, how many operations are settled or in the commit, and whether a meeting has told a failure of the device
pub record LockedHeld : Type 0 where
  pub replica : ReplicaHeld
  pub begun : ℕ
  pub failure_told : Bool

-- there is a commit where more operations were taken than are settled
abbrev pub has_commit : LockedHeld → Bool
has_commit l = nat_lt l.replica.settled l.begun

-- the commit as this part sees it, which knows only how many operations it has
abbrev pub commit_of : LockedHeld → Option Commit
commit_of l = if has_commit l then Some (record { count = l.begun; through = false }) else None

-- the machine's state as this part sees it: it knows of a failure only what a meeting has told
abbrev pub state_of : LockedHeld → State
state_of l = record {
  held = l.replica;
  version = 0;
  failed = false;
  failure_told = l.failure_told;
  commit = commit_of l;
}

-- how many settlements are due behind a commit or a settlement of the first n operations: one for all behind them
abbrev pub due_behind : ReplicaHeld → ℕ → ℕ
due_behind h n = if nat_lt n (length h.list) then 1 else 0

-- a commit of the first n operations can be settled: the list had that length, and there are places for its settlement and for
-- the one of all behind it
pub record CanSettle (h : ReplicaHeld) (n : ℕ) : Type 0 where
  pub more : h.settled < n
  pub reached : Contains (reached h.opened h.steps) n
  pub places : 1 + due_behind h n ≤ places_left h.steps

-- what this part keeps beside what its replica does
pub record Keeps (l : LockedHeld) : Type 0 where
  pub settled : l.replica.settled ≤ l.begun
  pub within : l.begun ≤ length l.replica.list
  -- the commit, if there is one, can be settled, and there is a place for the settlement of all behind it
  pub commit : l.replica.settled < l.begun → CanSettle l.replica l.begun
  pub places : l.replica.settled ≡ l.begun → due_behind l.replica l.begun ≤ places_left l.replica.steps
  -- the records that wait for the next commit have at most 1,048,576 bytes
  pub pending : waiting_length l.begun l.replica.steps l.replica.list ≤ MAX_PENDING

-- what waits are records that spell the operations behind the taken ones, and they have just the bytes that the steps say
pub record Waits (h : ReplicaHeld) (begun : ℕ) (records : List ℕ) : Type 0 where
  pub spells : SpellsList newest (drop begun h.list) records
  pub long : length records ≡ waiting_length begun h.steps h.list

-- the records of the taken operations, one by one, have so many bytes
abbrev pub Counts : ReplicaHeld → ℕ → ℕ → Type 0
Counts h begun bytes = bytes ≡ stream_length (take begun h.list)

-- what every locked part keeps: its replica's list is causally closed and the kept steps replay, and the above
pub record IsLocked (l : LockedHeld) : Type 0 where
  pub sound : IsSound l.replica
  pub keeps : Keeps l
