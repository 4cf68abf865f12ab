-- What one call of a hub does.
use Rattle.std.specs.Prelude.{◌≡◌, ◌≢◌, ◌↔◌, ◌⊎◌, ℕ, ◌+◌, ◌==◌, true, false, List, length, drop, Ok, Err, if◌then◌else◌}
use Rattle.fixed_numbers.specs.declared.refusals.TheConstants.{STORE_FAILED, WRITE_FAILED}
use Rattle.disk_trait.specs.Calls.{LeavesOnly}
use Rattle.disk_trait.specs.declared.facts.DiskFacts.{Ghosts}
use Rattle.op_model.specs.Machine.{Event, begin, device_step, Answer, begun, goes_on, goes_through, refused, Step}
use Rattle.group_commit.specs.Begin.{Begins}
use Rattle.group_commit.specs.Changes.{changed_pages}
use Rattle.group_commit.specs.Counts.{writes_left, syncs_left}
use Rattle.group_commit.specs.Errors.{number_of}
use Rattle.group_commit.specs.Moving.{base_for}
use Rattle.group_commit.specs.Held.{StoreHeld, gone_on, has_failed}
use Rattle.group_commit.specs.Step.{call_in, error_of, writes_of, syncs_of, Does}
use Rattle.group_commit.specs.declared.phase.Phase.{Phase}
use Rattle.replica_core.specs.Held.{IsSound}
use Rattle.locked_replica.specs.Hub.{Parts, state_of}
use Rattle.locked_replica.specs.Recovery.{HasAtLeast, Recovers}

-- how many device calls the answer to a device step shows: 44 is answered without one
abbrev pub device_calls : Answer → ℕ
device_calls goes_on = 1
device_calls goes_through = 1
device_calls (refused n) = if n == STORE_FAILED then 0 else 1
device_calls a = 0

-- how many device calls an event with this answer makes
abbrev pub calls_in : Event → Answer → ℕ
calls_in device_step a = device_calls a
calls_in event a = 0

-- how many of them fail: each that is refused
abbrev pub device_failures : Answer → ℕ
device_failures (refused n) = if n == STORE_FAILED then 0 else 1
device_failures a = 0

-- how many failures of the device an event with this answer has met
abbrev pub failures_in : Event → Answer → ℕ
failures_in device_step a = device_failures a
failures_in event a = 0

-- How many writes a commit makes that begins with this answer: one for each page whose bytes or entries change or that is new, and for
-- every page of the next root where the list is written anew; the close where the stale gate reads 1, the body and the gate.
abbrev pub writes_begun : {D : Type 0} → Answer → StoreHeld D → ℕ
writes_begun (begun n) store = length (changed_pages (base_for store.current) store.next) + (if store.stale_open then 3 else 2)
writes_begun a store = 0

-- and how many syncs
abbrev pub syncs_begun : Answer → ℕ
syncs_begun (begun n) = 3
syncs_begun a = 0

-- no write of a page, a gate or a body has failed: no device call has, or this one isn't answered so
abbrev pub NoWriteFails : {D : Type 0} → Answer → StoreHeld D → Type 0
NoWriteFails answer new = (new.failed ≡ false) ⊎ (answer ≢ refused WRITE_FAILED)

-- The disk's own counts, together with what the commit under way still makes, rise by what a commit makes that begins: the writes
-- as long as none fails, behind a failed sync too, and the syncs as long as no device call fails. One that failed stays so.
pub record Counts {D : Type 0} (facts : Ghosts D) (answer : Answer) (old new : StoreHeld D) : Type 0 where
  pub stays : old.failed ≡ true → new.failed ≡ true
  pub writes : facts.tells old.disk → NoWriteFails answer new
      → facts.writes new.disk + writes_left new ≡ facts.writes old.disk + writes_left old + writes_begun answer new
  pub syncs : facts.tells old.disk → new.failed ≡ false
      → facts.syncs new.disk + syncs_left new ≡ facts.syncs old.disk + syncs_left old + syncs_begun answer

-- A begin that is answered with a number has begun a commit of all operations that aren't settled, by records that spell them;
-- another one changes nothing.
abbrev pub StoreBegins : {D : Type 0} → Ghosts D → Answer → Parts D → StoreHeld D → Type 0
StoreBegins facts (begun n) old new =
    (records : List ℕ) × Begins facts old.store (drop old.replica.settled old.replica.list) records new
StoreBegins facts a old new = new ≡ old.store

-- the call of the phase is counted, whether it fails or not
pub record IsCounted {D : Type 0} (facts : Ghosts D) (old new : StoreHeld D) : Type 0 where
  pub writes : facts.writes new.disk ≡ facts.writes old.disk + writes_of (call_in old.phase)
  pub syncs : facts.syncs new.disk ≡ facts.syncs old.disk + syncs_of (call_in old.phase)

-- A device step that succeeds made the call of its phase, and goes on to the next one.
pub record StepsOn {D : Type 0} (facts : Ghosts D) (old new : StoreHeld D) : Type 0 where
  pub counted : facts.tells old.disk → IsCounted facts old new
  pub next : new ≡ gone_on old.phase old new.disk
  pub does : facts.tells old.disk → Does {T = Phase} facts (Ok old.phase) (call_in old.phase) old new.disk

-- One that fails has the number of its phase's failure; a write may be torn, in its range alone.
pub record StepsFail {D : Type 0} (facts : Ghosts D) (n : ℕ) (old new : StoreHeld D) : Type 0 where
  pub counted : facts.tells old.disk → IsCounted facts old new
  pub number : n ≡ number_of (error_of (call_in old.phase))
  pub next : new ≡ has_failed old new.disk
  pub does : facts.tells old.disk → Does {T = Phase} facts (Err (error_of (call_in old.phase))) (call_in old.phase) old new.disk

-- a device step goes on, or it is refused: with 44 without a call, else because it failed
abbrev pub StoreSteps : {D : Type 0} → Ghosts D → Answer → StoreHeld D → StoreHeld D → Type 0
StoreSteps facts goes_on old new = StepsOn facts old new
StoreSteps facts goes_through old new = StepsOn facts old new
StoreSteps facts (refused n) old new = ((n ≡ STORE_FAILED) × (new ≡ old)) ⊎ StepsFail facts n old new
StoreSteps facts a old new = new ≡ old

-- What a call makes of the store: only a begin and a device step change it, and only a device step touches the disk.
abbrev pub StoreGoes : {D : Type 0} → Ghosts D → Event → Answer → Parts D → StoreHeld D → Type 0
StoreGoes facts begin a old new = StoreBegins facts a old new
StoreGoes facts device_step a old new = StoreSteps facts a old.store new
StoreGoes facts event a old new = new ≡ old.store

-- What a crash leaves at a moment of a call: a beginning of the list with all that was settled before the call, and the image that a
-- crash leaves of the hub before the call or after it.
pub record IsLeftIn {D : Type 0} (old new : Parts D) (file : List ℕ) : Type 0 where
  pub has : HasAtLeast old.replica.settled new.replica file
  pub around : Recovers old file ⊎ Recovers new file

-- A call is one step of the machine, with its answer. The list stays causally closed, and what is acknowledged and told is settled. The
-- disk's time goes on by the device calls that the answer shows.
pub record IsCall {D : Type 0} (facts : Ghosts D) (event : Event) (answer : Answer) (old new : Parts D) : Type 0 where
  pub step : Step (state_of old) event answer (state_of new)
  pub sound : IsSound new.replica
  pub store : StoreGoes facts event answer old new.store
  pub tells : facts.tells new.store.disk ↔ facts.tells old.store.disk
  pub time : facts.tells old.store.disk → facts.time new.store.disk ≡ facts.time old.store.disk + calls_in event answer
  pub failures : facts.tells old.store.disk → facts.failures new.store.disk ≡ facts.failures old.store.disk + failures_in event answer
  -- a crash at any moment of the call
  pub moments : facts.tells old.store.disk → LeavesOnly facts old.store.disk new.store.disk (IsLeftIn old new)
  -- a crash right after it, which leaves all that is settled then
  pub left : facts.tells new.store.disk → (file : List ℕ) → facts.survives new.store.disk file
      → HasAtLeast new.replica.settled new.replica file
  pub recovers : facts.tells new.store.disk → (file : List ℕ) → facts.survives new.store.disk file → Recovers new file
  pub counts : Counts facts answer old.store new.store
