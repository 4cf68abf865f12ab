-- What a step of a commit does to the disk below the store.
use Rattle.std.specs.Prelude.{◌≡◌, ◌≢◌, ◌⊎◌, ◌↔◌, ◌<◌, ℕ, ◌+◌, ◌-◌, ◌*◌, true, false, List, [], ◌∷◌, length, get_or}
use Rattle.std.specs.Prelude.{Result, Ok, Err, IfOk, IfErr, OnOk, OnErr}
use Rattle.fixed_numbers.specs.declared.sizes.TheConstants.{BODY_LENGTH, PAGE_SIZE}
use Rattle.disk_trait.specs.Calls.{IsOneCall, LeavesOnly, Settles, Keeps}
pub use Rattle.disk_trait.specs.Writing.{failures_in, Writes}
use Rattle.disk_trait.specs.declared.facts.DiskFacts.{Ghosts}
use Rattle.root_slots.specs.Slots.{gate}
use Rattle.group_commit.specs.Commit.{IsLeft}
use Rattle.group_commit.specs.Held.{StoreHeld, gone_on, has_failed}
use Rattle.group_commit.specs.declared.error.StoreError.{StoreError}
use Rattle.group_commit.specs.declared.error.StoreError.TheVariants.{Failed, WriteFailed, SyncFailed}
use Rattle.group_commit.specs.declared.phase.Phase.{Phase}
use Rattle.group_commit.specs.declared.phase.Phase.TheVariants.{Idle, Pages, Close, Body, Gate}

-- a device call, or none: the write of the k-th new page, of a gate or of a body, or a sync
pub data Call : Type 0 where
  no_call : Call
  write_page : ℕ → Call
  close_gate : Call
  write_body : Call
  open_gate : Call
  sync : Call

-- the device call of a phase: none at rest
abbrev pub call_in : Phase → Call
call_in Idle = no_call
call_in (Pages k) = write_page k
call_in Close = close_gate
call_in Body = write_body
call_in Gate = open_gate
call_in phase = sync

-- how many writes it is, how many syncs, and its failure: 52 of a sync, else 51
abbrev pub writes_of : Call → ℕ
writes_of no_call = 0
writes_of sync = 0
writes_of call = 1

abbrev pub syncs_of : Call → ℕ
syncs_of sync = 1
syncs_of call = 0

abbrev pub error_of : Call → StoreError
error_of sync = SyncFailed
error_of call = WriteFailed

-- what a crash leaves before a call, or behind it
abbrev pub IsLeftAround : {D : Type 0} → StoreHeld D → StoreHeld D → List ℕ → Type 0
IsLeftAround old new file = IsLeft old.phase old.current old.next file ⊎ IsLeft new.phase new.current new.next file

-- One device call of this kind. It is refused with its failure alone, and only where the device failed. A crash at any moment of it
-- leaves what one before it or behind it does.
pub record IsDeviceCall {D T : Type 0} (facts : Ghosts D) (made : Call) (result : Result T StoreError) (old new : StoreHeld D) : Type 0 where
  pub tells : facts.tells new.disk ↔ facts.tells old.disk
  pub call : facts.tells old.disk → IsOneCall facts (failures_in result) (writes_of made) (syncs_of made) old.disk new.disk
  pub moments : facts.tells old.disk → LeavesOnly facts old.disk new.disk (IsLeftAround old new)
  -- what a crash right after it leaves
  pub left : facts.tells new.disk → (c : List ℕ) → facts.survives new.disk c → IsLeft new.phase new.current new.next c
  pub refused : IfErr result (λ e. e ≡ error_of made)

-- A sync, which writes nothing. Where it succeeds, a crash leaves what reads give, and else what it could leave before.
pub record Syncs {D : Type 0} {T : Type 0} (facts : Ghosts D) (result : Result T StoreError) (old new : D) : Type 0 where
  pub settled : OnOk result (Settles facts old new)
  pub unsettled : OnErr result (Keeps facts old new)

-- the write of the k-th new page
pub record WritesPage {D : Type 0} {T : Type 0} (facts : Ghosts D) (result : Result T StoreError) (k : ℕ) (held : StoreHeld D) (new : D)
    : Type 0 where
  pub page : List ℕ
  pub size : length page ≡ PAGE_SIZE
  pub within : k < length held.numbers
  pub writes : Writes facts result (PAGE_SIZE * get_or held.numbers k 0) page held.disk new

-- the stale gate, which reads 1, is written as 0
pub record Closes {D : Type 0} {T : Type 0} (facts : Ghosts D) (result : Result T StoreError) (held : StoreHeld D) (new : D) : Type 0 where
  pub is_one : gate (1 - held.slot) (facts.content held.disk) ≡ 1
  pub writes : Writes facts result (PAGE_SIZE * (1 - held.slot)) (0 ∷ []) held.disk new

-- the 4,088 bytes of the next root's body are written behind the stale gate
pub record Fills {D : Type 0} {T : Type 0} (facts : Ghosts D) (result : Result T StoreError) (held : StoreHeld D) (new : D) : Type 0 where
  pub size : length held.next.body ≡ BODY_LENGTH
  pub writes : Writes facts result (PAGE_SIZE * (1 - held.slot) + 8) held.next.body held.disk new

-- what a call does to the disk: it writes in a range of its own, or it is a sync
abbrev pub Does : {D T : Type 0} → Ghosts D → Result T StoreError → Call → StoreHeld D → D → Type 0
Does facts result no_call held new = new ≡ held.disk
Does facts result (write_page k) held new = WritesPage facts result k held new
Does facts result close_gate held new = Closes facts result held new
Does facts result write_body held new = Fills facts result held new
Does facts result open_gate held new = Writes facts result (PAGE_SIZE * (1 - held.slot)) (1 ∷ []) held.disk new
Does facts result sync held new = Syncs facts result held.disk new

-- The device call of this phase was made, and the commit goes on behind it, or else the store has failed.
pub record MakesCall {D : Type 0} (facts : Ghosts D) (phase : Phase) (result : Result Phase StoreError) (old new : StoreHeld D) : Type 0 where
  -- the answer names the phase whose call it was
  pub made : IfOk result (λ made. made ≡ old.phase)
  -- the next phase is due
  pub went_on : OnOk result (new ≡ gone_on old.phase old new.disk)
  -- or none any more
  pub failed : OnErr result (new ≡ has_failed old new.disk)
  -- it is one device call, and a crash leaves what one before it or behind it does
  pub call : IsDeviceCall {T = Phase} facts (call_in phase) result old new
  -- it does to the disk what the call of this phase does
  pub does : facts.tells old.disk → Does {T = Phase} facts result (call_in phase) old new.disk

-- One step of a store: none behind a failure, none at rest, else the device call of its phase, behind which it goes on or has failed.
pub record IsStoreStep {D : Type 0} (facts : Ghosts D) (old : StoreHeld D) (result : Result Phase StoreError) (new : StoreHeld D) : Type 0 where
  -- behind a failure it is refused with 44
  pub stopped : old.failed ≡ true → (result ≡ Err Failed) × (new ≡ old)
  -- at rest there is nothing to do
  pub idle : old.failed ≡ false → old.phase ≡ Idle → (result ≡ Ok Idle) × (new ≡ old)
  -- the answer names the phase whose call it was
  pub made : IfOk result (λ phase. phase ≡ old.phase)
  -- else it is one device call, and a crash leaves what one before it or behind it does
  pub call : old.failed ≡ false → old.phase ≢ Idle → IsDeviceCall {T = Phase} facts (call_in old.phase) result old new
  -- it writes in the range of its phase alone, and 0 into the stale gate only where that reads 1
  pub does : old.failed ≡ false → facts.tells old.disk → Does {T = Phase} facts result (call_in old.phase) old new.disk
  -- the next phase is due
  pub went_on : old.failed ≡ false → OnOk result (new ≡ gone_on old.phase old new.disk)
  -- or none any more
  pub failed : old.failed ≡ false → OnErr result (new ≡ has_failed old new.disk)
