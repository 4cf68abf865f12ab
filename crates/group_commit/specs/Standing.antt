-- What a store keeps while a commit goes from phase to phase. Only its invariants and their proofs read this.
use Rattle.std.specs.Prelude.{◌≡◌, ◌≢◌, ℕ, ◌-◌, ◌*◌, ◌<◌, ◌≤◌, Bool, true, false, List, ◌++◌, length, get_or, ⊤}
use Rattle.fixed_numbers.specs.declared.sizes.TheConstants.{BODY_LENGTH, PAGE_SIZE, SLOTS_SIZE}
use Rattle.disk_trait.specs.File.{part}
use Rattle.disk_trait.specs.declared.facts.DiskFacts.{Ghosts}
use Rattle.page_file.specs.Free.{AreLowest}
use Rattle.page_file.specs.Pages.{page, are_pages}
use Rattle.root_slots.specs.Root.{format_of, version_of, stream_length_of}
use Rattle.root_slots.specs.Slots.{gate, body}
use Rattle.group_commit.specs.Held.{StoreHeld}
use Rattle.group_commit.specs.Image.{Stores}
use Rattle.group_commit.specs.Moving.{CanMove}
use Rattle.group_commit.specs.Plan.{newest}
use Rattle.group_commit.specs.Saved.{Saved, Paged, with_stream}
use Rattle.group_commit.specs.declared.phase.Phase.{Phase}
use Rattle.group_commit.specs.declared.phase.Phase.TheVariants.{Idle, Pages, Close, Sync1, Body, Sync2, Gate, Sync3}

-- the root's pages lie in this file and hold its stream
abbrev pub HasPages : Saved → List ℕ → Type 0
HasPages root file = Stores root.body root.stream root.pages file

-- the stale slot is closed, or of a smaller version than the live one
abbrev pub IsOlder : ℕ → Saved → List ℕ → Type 0
IsOlder slot current file = gate (1 - slot) file ≡ 1 → version_of (body (1 - slot) file) < version_of current.body

-- whether the stale gate reads 1, as it did before the commit
pub record IsAsBefore (slot : ℕ) (stale_open : Bool) (file : List ℕ) : Type 0 where
  pub opened : stale_open ≡ true → gate (1 - slot) file ≡ 1
  pub closed : stale_open ≡ false → gate (1 - slot) file ≢ 1

-- what the stale slot has, and the new root's pages
abbrev pub StaleSlot : Phase → ℕ → Bool → Saved → Saved → List ℕ → Type 0
-- a gate that a crash has torn is never closed
StaleSlot Close slot stale_open current next file = IsOlder slot current file × (gate (1 - slot) file ≡ 1)
StaleSlot Sync1 slot stale_open current next file = IsOlder slot current file
StaleSlot Body slot stale_open current next file = (gate (1 - slot) file ≢ 1) × HasPages next file
StaleSlot Sync2 slot stale_open current next file = (gate (1 - slot) file ≢ 1) × HasPages next file
StaleSlot Gate slot stale_open current next file =
    (gate (1 - slot) file ≢ 1) × HasPages next file × (body (1 - slot) file ≡ next.body)
StaleSlot Sync3 slot stale_open current next file = HasPages next file × (body (1 - slot) file ≡ next.body)
StaleSlot phase slot stale_open current next file = IsOlder slot current file × IsAsBefore slot stale_open file

-- What a file has in a phase. The live slot and the pages that its root reaches stay through all of them.
pub record Stands (phase : Phase) (slot : ℕ) (stale_open : Bool) (current next : Saved) (file : List ℕ) : Type 0 where
  pub whole : SLOTS_SIZE ≤ length file
  pub is_open : gate slot file ≡ 1
  pub holds : body slot file ≡ current.body
  pub keeps : HasPages current file
  pub stale_slot : StaleSlot phase slot stale_open current next file

-- the first k of the new pages are written
abbrev pub ReadAs : ℕ → List ℕ → List ℕ → List ℕ → Type 0
ReadAs k numbers fresh file = (i : ℕ) → i < k → page (get_or numbers i 0) file ≡ part fresh (PAGE_SIZE * i) PAGE_SIZE

-- what reads give of the writes since the last sync
abbrev pub HasWritten : Phase → ℕ → Saved → List ℕ → List ℕ → List ℕ → Type 0
HasWritten (Pages k) slot next numbers fresh file = ReadAs k numbers fresh file
HasWritten Close slot next numbers fresh file = ReadAs (length numbers) numbers fresh file
HasWritten Sync1 slot next numbers fresh file = ReadAs (length numbers) numbers fresh file × (gate (1 - slot) file ≢ 1)
HasWritten Sync2 slot next numbers fresh file = body (1 - slot) file ≡ next.body
HasWritten Sync3 slot next numbers fresh file = gate (1 - slot) file ≡ 1
HasWritten phase slot next numbers fresh file = ⊤

-- with its new pages written, a file that has the current root has the next one
abbrev pub MakesNext : Saved → List ℕ → List ℕ → Saved → Type 0
MakesNext current numbers fresh next = (file : List ℕ) → HasPages current file → ReadAs (length numbers) numbers fresh file → HasPages next file

-- what a commit under way is about to write
pub record IsPlan (phase : Phase) (current next : Saved) (numbers fresh : List ℕ) : Type 0 where
  pub newer : version_of current.body < version_of next.body
  pub format : format_of next.body ≡ newest
  pub size : length next.body ≡ BODY_LENGTH
  -- the new pages lie behind the slots, apart, and none of them is live
  pub free : are_pages (numbers ++ current.pages) ≡ true
  -- each is the lowest free one: all pages below it are live or taken before
  pub lowest : AreLowest current.pages numbers
  pub under_way : (k : ℕ) → phase ≡ Pages k → k < length numbers
  pub makes : MakesNext current numbers fresh next

-- what a store keeps
pub record IsSoundStore {D : Type 0} (facts : Ghosts D) (held : StoreHeld D) (slot : ℕ) (numbers fresh : List ℕ) : Type 0 where
  pub slots : slot < 2
  pub room : length fresh ≡ PAGE_SIZE * length numbers
  pub plan : held.phase ≢ Idle → IsPlan held.phase held.current held.next numbers fresh
  pub stands : facts.tells held.disk → (c : List ℕ) → facts.survives held.disk c
      → Stands held.phase slot held.stale_open held.current held.next c
  pub reads : facts.tells held.disk → held.failed ≡ false → HasWritten held.phase slot held.next numbers fresh (facts.content held.disk)

-- Each root's stream is as long as the root says. They are two: the next one doesn't go on with the live one where a commit writes the
-- whole list anew. What it begins with then is kept.
pub record HasStreams (current next : Paged) (stream next_stream anew : List ℕ) : Type 0 where
  pub of_current : length stream ≡ stream_length_of current.body
  pub of_next : length next_stream ≡ stream_length_of next.body
  pub moving : CanMove (with_stream current stream) anew
