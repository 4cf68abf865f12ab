-- What a meeting of the two parts does.
use Rattle.std.specs.Prelude.{◌≡◌, ◌⊎◌, ℕ, ◌+◌, ◌<◌, Bool, true, false, not, if◌then◌else◌, List, ◌++◌, length, drop, Result, Ok, Err}
use Rattle.disk_trait.specs.declared.facts.DiskFacts.{Ghosts}
use Rattle.op_model.specs.declared.op.Op.{Op}
use Rattle.root_slots.specs.Root.{count_of}
use Rattle.op_model.specs.Held.{with_settled}
use Rattle.group_commit.specs.Begin.{has_room, is_idle, is_none, AreWritten, Begins}
use Rattle.group_commit.specs.declared.error.StoreError.{StoreError}
use Rattle.group_commit.specs.declared.error.StoreError.TheVariants.{Memory, Limit, Busy, Failed}
use Rattle.hub_parts.specs.Locked.{has_commit, LockedHeld}
use Rattle.hub_parts.specs.Flusher.{FlusherHeld}
use Rattle.hub_parts.specs.declared.met.Met.{Met}
use Rattle.hub_parts.specs.declared.met.Met.TheVariants.{Begun, Settled, Nothing}

-- the operations that wait for the next commit
abbrev pub pending : LockedHeld → List Op
pending l = drop l.begun l.replica.list

-- just one of them is true
abbrev pub differ : Bool → Bool → Bool
differ true b = not b
differ false b = b

-- the answer that is due with a commit: settled where no device call is left, else busy 8
abbrev pub due_with_commit : {D : Type 0} → LockedHeld → FlusherHeld D → Result Met StoreError
due_with_commit l f = if is_idle f.store.phase then Ok (Settled l.begun) else Err Busy

-- and without one, in the order of test: nothing to commit, limit 7, or the length of the new list
abbrev pub due_without : {D : Type 0} → LockedHeld → FlusherHeld D → Result Met StoreError
due_without l f =
    if is_none (pending l) then Ok Nothing
    else if not (has_room f.store.current (pending l)) then Err Limit
    else Ok (Begun (count_of f.store.current.body + length (pending l)))

-- the answer that is due of any two parts, in the order of test: failed 44, just one of them has a commit 8, those above
abbrev pub meeting_due : {D : Type 0} → LockedHeld → FlusherHeld D → Result Met StoreError
meeting_due l f =
    if f.store.failed then Err Failed
    else if differ f.due (has_commit l) then Err Busy
    else if f.due then due_with_commit l f
    else due_without l f

-- a commit is due to begin
abbrev pub IsBeginning : Result Met StoreError → Type 0
IsBeginning (Ok (Begun n)) = Unit {0}
IsBeginning answer = ⊥

-- the answer is the one that is due, or out of memory in place of a commit
abbrev pub IsMet : Result Met StoreError → Result Met StoreError → Type 0
IsMet due answer = (answer ≡ due) ⊎ ((answer ≡ Err Memory) × IsBeginning due)

-- a commit of these operations can begin, which the pieces spell: the device works, there is no commit, and there is room for the
-- operations
pub record CanCommit {D : Type 0} (f : FlusherHeld D) (ops : List Op) (pieces : List ℕ) : Type 0 where
  pub works : f.store.failed ≡ false
  pub rests : f.due ≡ false
  pub written : AreWritten ops (length ops) pieces
  pub some : 0 < length ops
  pub room : has_room f.store.current ops ≡ true

-- the flusher begins a commit of these operations, by these records
pub record BeginsCommit {D : Type 0} (facts : Ghosts D) (f : FlusherHeld D) (ops : List Op) (records : List ℕ) (f' : FlusherHeld D) : Type 0 where
  pub begins : Begins facts f.store ops records f'.store
  pub list : f'.list ≡ f.list ++ ops
  pub due : f'.due ≡ true

-- the flusher takes all that waits, and begins a commit of just these operations, by records that spell them
pub record TakesAll {D : Type 0} (facts : Ghosts D) (l : LockedHeld) (f : FlusherHeld D) (l' : LockedHeld) (f' : FlusherHeld D) : Type 0 where
  pub locked : l' ≡ record l { begun = length l.replica.list }
  pub records : List ℕ
  pub begins : Begins facts f.store (pending l) records f'.store
  pub list : f'.list ≡ f.list ++ pending l
  pub due : f'.due ≡ true

-- the operations that were taken are settled
pub record SettlesTaken {D : Type 0} (l : LockedHeld) (f : FlusherHeld D) (l' : LockedHeld) (f' : FlusherHeld D) : Type 0 where
  pub locked : l' ≡ record l { replica = with_settled l.replica l.begun }
  pub flusher : f' ≡ record f { due = false }

-- both parts are as before, but that a failure of the device is told
pub record TellsFailure {D : Type 0} (l : LockedHeld) (f : FlusherHeld D) (l' : LockedHeld) (f' : FlusherHeld D) : Type 0 where
  pub locked : l' ≡ (if f.store.failed then record l { failure_told = true } else l)
  pub flusher : f' ≡ f

-- what is left behind a meeting with this answer
abbrev pub LeavesBoth : {D : Type 0} → Ghosts D → LockedHeld → FlusherHeld D → Result Met StoreError → LockedHeld → FlusherHeld D → Type 0
LeavesBoth facts l f (Ok (Begun n)) l' f' = TakesAll facts l f l' f'
LeavesBoth facts l f (Ok (Settled n)) l' f' = SettlesTaken l f l' f'
LeavesBoth facts l f (Ok Nothing) l' f' = (l' ≡ l) × (f' ≡ f)
LeavesBoth facts l f (Err e) l' f' = TellsFailure l f l' f'

-- a meeting of any two parts: its answer, and what is left of both
pub record Meets {D : Type 0} (facts : Ghosts D) (l : LockedHeld) (f : FlusherHeld D) (result : Result Met StoreError) (l' : LockedHeld)
    (f' : FlusherHeld D) : Type 0 where
  pub answer : IsMet (meeting_due l f) result
  pub leaves : LeavesBoth facts l f result l' f'
