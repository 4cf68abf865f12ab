-- Which root slot of a file is live, and what it says.
use Rattle.std.specs.Prelude.{◌≡◌, ℕ, ◌-◌, ◌<◌, ◌≤◌, ◌==◌, Bool, if◌then◌else◌, List, length, Result, Ok, Err}
use Rattle.fixed_numbers.specs.declared.refusals.TheConstants.{BAD_ROOT}
use Rattle.fixed_numbers.specs.declared.sizes.TheConstants.{SLOTS_SIZE}
use Rattle.disk_trait.specs.declared.facts.DiskFacts.{Ghosts}
use Rattle.root_slots.specs.Root.{is_root}
use Rattle.root_slots.specs.Body.{Root, IsRoot, Spells, body_bytes}
use Rattle.root_slots.specs.Slots.{gate, body, live}

-- which slot is live, 0 or 1, and whether the other one's gate reads 1
pub record SlotPair : Type 0 where
  pub slot : ℕ
  pub stale_open : Bool

-- the live slot of a file, whether the other one is open too, and what the live one says
pub record IsLive (file : List ℕ) (slot : ℕ) (stale_open : Bool) (head : Root) : Type 0 where
  pub whole : SLOTS_SIZE ≤ length file
  pub below : slot < 2
  pub picked : live file ≡ Ok slot
  pub other : stale_open ≡ (gate (1 - slot) file == 1)
  pub spells : Spells (body slot file) head
  pub written : body slot file ≡ body_bytes head

-- what was read of a disk's slots: which one is live, its root, and the size of the file
pub record AreRead {D : Type 0} (facts : Ghosts D) (disk : D) (slots : SlotPair) (head : Root) (file_size : ℕ) : Type 0 where
  pub live_one : facts.tells disk → IsLive (facts.content disk) slots.slot slots.stale_open head
  pub size : facts.tells disk → file_size ≡ length (facts.content disk)
  pub below : slots.slot < 2
  pub valid : IsRoot head

-- this body, or bad root 43
abbrev pub rooted : List ℕ → Result (List ℕ) ℕ
rooted root = if is_root root then Ok root else Err BAD_ROOT

-- the body of the slot that was found, or why none was
abbrev pub root_at : List ℕ → Result ℕ ℕ → Result (List ℕ) ℕ
root_at file (Ok slot) = rooted (body slot file)
root_at file (Err n) = Err n

-- the body of the live slot; no root 42, bad root 43
abbrev pub live_root : List ℕ → Result (List ℕ) ℕ
live_root file = root_at file (live file)
