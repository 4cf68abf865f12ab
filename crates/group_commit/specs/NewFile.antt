-- The file of a new store.
use Rattle.std.specs.Prelude.{◌≡◌, ◌≢◌, ◌⊎◌, ◌↔◌, ◌≤◌, ℕ, ◌+◌, Bool, true, false, List, [], ◌∷◌, ◌++◌, take, drop, replicate}
use Rattle.fixed_numbers.specs.declared.refusals.TheConstants.{MEMORY, NOT_EMPTY, READ_FAILED, SYNC_FAILED, WRITE_FAILED}
use Rattle.fixed_numbers.specs.declared.sizes.TheConstants.{PAGE_SIZE}
use Rattle.disk_trait.specs.Calls.{Keeps, LeavesOnly}
use Rattle.disk_trait.specs.declared.facts.DiskFacts.{Ghosts}
use Rattle.page_file.specs.Index.{Index}
use Rattle.root_slots.specs.Body.{Root, root_of}
use Rattle.root_slots.specs.Root.{is_root, stream_length_of}
use Rattle.root_slots.specs.Slots.{gate}
use Rattle.group_commit.specs.Plan.{newest}
use Rattle.group_commit.specs.Saved.{Paged}
use Rattle.group_commit.specs.Commit.{IsLeft}
use Rattle.group_commit.specs.Held.{StoreHeld}
use Rattle.group_commit.specs.declared.phase.Phase.TheVariants.{Idle}
use Rattle.group_commit.specs.declared.init_fault.InitError.{InitError}
use Rattle.group_commit.specs.declared.init_fault.InitError.TheVariants.{Memory, NotEmpty, ReadFailed, WriteFailed, SyncFailed}

-- the page of a slot with this gate and body
abbrev pub slot_page : ℕ → List ℕ → List ℕ
slot_page gate body = gate ∷ (replicate 7 0 ++ body)

-- the first slot is open with this body, the second is zero
abbrev pub new_file : List ℕ → List ℕ
new_file body = slot_page 1 body ++ replicate PAGE_SIZE 0

-- the root of a new store, of the newest format
abbrev pub first_root : ℕ → Root
first_root replica = record { format = newest; version = 1; replica = replica; stream_length = 0; operations = 0; tables = [] }

-- each refusal has one number
abbrev pub number_of : InitError → ℕ
number_of Memory = MEMORY
number_of NotEmpty = NOT_EMPTY
number_of ReadFailed = READ_FAILED
number_of WriteFailed = WRITE_FAILED
number_of SyncFailed = SYNC_FAILED

-- a refusal has met a failure of the device, or not
abbrev pub failures_of : InitError → ℕ
failures_of Memory = 0
failures_of NotEmpty = 0
failures_of cause = 1

-- a refusal before anything was written
abbrev pub is_unwritten : InitError → Bool
is_unwritten WriteFailed = false
is_unwritten SyncFailed = false
is_unwritten cause = true

-- by how much the counts of failures, of writes and of syncs rise in some calls
pub record Raises {D : Type 0} (facts : Ghosts D) (more_failures more_writes more_syncs : ℕ) (old new : D) : Type 0 where
  pub failures : facts.failures new ≡ facts.failures old + more_failures
  pub writes : facts.writes new ≡ facts.writes old + more_writes
  pub syncs : facts.syncs new ≡ facts.syncs old + more_syncs

-- this number of writes and of syncs made this file, and no call failed
pub record IsMade {D : Type 0} (facts : Ghosts D) (file : List ℕ) (writes syncs : ℕ) (old new : D) : Type 0 where
  pub made : facts.content new ≡ file
  pub counts : Raises facts 0 writes syncs old new

-- nothing was written: reads give the same, and a crash at any moment of it leaves what one before it could
pub record IsUntouched {D : Type 0} (facts : Ghosts D) (old new : D) : Type 0 where
  pub keeps : Keeps facts old new
  pub moments : LeavesOnly facts old new (facts.survives old)

-- the roots of a new store: its first one, an empty one in the place of a commit's, and an index of no pages
pub record AreFirst (replica : ℕ) (current next : Paged) (index : Index) : Type 0 where
  -- the first one says version 1, this replica and no operation
  pub root : root_of current.body ≡ first_root replica
  -- by the rules of a root body
  pub valid : is_root current.body ≡ true
  -- it reaches no page
  pub no_pages : current.pages ≡ []
  -- the other one has no stream
  pub other : stream_length_of next.body ≡ 0
  -- no page is live, and none is taken
  pub no_tables : index.tables ≡ []
  pub no_data_pages : index.data_pages ≡ []
  pub none_taken : index.taken ≡ []

-- What a new store is, over the disk whose file it made.
pub record IsNew {D : Type 0} (facts : Ghosts D) (replica : ℕ) (disk : D) (store : StoreHeld D) : Type 0 where
  -- its root says version 1, this replica and no operation
  pub root : root_of store.current.body ≡ first_root replica
  -- and has no stream
  pub empty : store.current.stream ≡ []
  -- no commit is under way
  pub idle : store.phase ≡ Idle
  -- no device call has failed
  pub works : store.failed ≡ false
  -- the second slot is closed
  pub closed : store.stale_open ≡ false
  -- the first one is live
  pub slot : store.slot ≡ 0
  -- it is made of a file without bytes alone
  pub taken : facts.tells disk → facts.content disk ≡ []
  -- by three writes and two syncs, byte for byte
  pub made : facts.tells disk → IsMade facts (new_file store.current.body) 3 2 disk store.disk
  -- a crash leaves a file that has that root
  pub left : facts.tells disk → (c : List ℕ) → facts.survives store.disk c → IsLeft store.phase store.current store.next c
  -- the disk tells as before
  pub tells : facts.tells store.disk ↔ facts.tells disk

-- A file is made by two writes of slots, a sync, the write of a gate, and a sync. So many writes and syncs there are up to the one
-- that failed with this refusal.
abbrev pub IsUpTo : InitError → ℕ → ℕ → Type 0
IsUpTo WriteFailed writes syncs = ((1 ≤ writes) × (writes ≤ 2) × (syncs ≡ 0)) ⊎ ((writes ≡ 3) × (syncs ≡ 1))
IsUpTo SyncFailed writes syncs = ((writes ≡ 2) × (syncs ≡ 1)) ⊎ ((writes ≡ 3) × (syncs ≡ 2))
IsUpTo cause writes syncs = (writes ≡ 0) × (syncs ≡ 0)

-- a file has the two slots of a new store, but for the byte of the gate
pub record HasSlots (replica : ℕ) (file : List ℕ) : Type 0 where
  pub body : List ℕ
  pub root : root_of body ≡ first_root replica
  pub rest : drop 1 file ≡ drop 1 (new_file body)

-- where the making of a file stopped, and what is left
pub record Stops {D : Type 0} (facts : Ghosts D) (replica : ℕ) (cause : InitError) (old new : D) : Type 0 where
  pub writes : ℕ
  pub syncs : ℕ
  pub up_to : IsUpTo cause writes syncs
  pub counts : Raises facts (failures_of cause) writes syncs old new
  -- the slot's page is written with a closed gate
  pub closed : writes ≡ 2 → gate 0 (facts.content new) ≡ 0
  -- once the gate is written, a crash leaves the slots: they were settled before
  pub slots : writes ≡ 3 → (c : List ℕ) → facts.survives new c → HasSlots replica c

-- why a file wasn't made, and what that leaves
pub record RefusesInit {D : Type 0} (facts : Ghosts D) (replica : ℕ) (cause : InitError) (old new : D) : Type 0 where
  -- 48 is of a file that has bytes; and where it has some, it is 48, or 50 where the device failed
  pub not_empty : cause ≡ NotEmpty → facts.content old ≢ []
  pub occupied : facts.content old ≢ [] → (cause ≡ NotEmpty) ⊎ (cause ≡ ReadFailed)
  -- these two and out of memory leave the disk as it was, at every moment
  pub kept : is_unwritten cause ≡ true → IsUntouched facts old new
  pub stops : Stops facts replica cause old new

-- of two writes of slots the first failed, or the second behind it
abbrev pub PutsPartly : {D : Type 0} → Ghosts D → List ℕ → D → D → Type 0
PutsPartly facts first old new =
    Raises facts 1 1 0 old new ⊎ (Raises facts 1 2 0 old new × (take PAGE_SIZE (facts.content new) ≡ first))

-- a crash leaves the file that reads gave before, but for its first byte
abbrev pub IsLeftBehind : {D : Type 0} → Ghosts D → D → D → Type 0
IsLeftBehind facts old new = (c : List ℕ) → facts.survives new c → drop 1 c ≡ drop 1 (facts.content old)

-- of a sync, the write of the first byte, and a sync one failed: nothing was written, or what was there is settled
abbrev pub OpensPartly : {D : Type 0} → Ghosts D → InitError → D → D → Type 0
OpensPartly facts e old new =
    ((e ≡ SyncFailed) × Raises facts 1 0 1 old new × (facts.content new ≡ facts.content old))
    ⊎ ((e ≡ WriteFailed) × Raises facts 1 1 1 old new × IsLeftBehind facts old new)
    ⊎ ((e ≡ SyncFailed) × Raises facts 1 1 2 old new × IsLeftBehind facts old new)
