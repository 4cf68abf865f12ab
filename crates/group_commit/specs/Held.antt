-- A store as its callers see it, and what one step of a commit makes of it.
use Rattle.std.specs.Prelude.{ℕ, ◌+◌, ◌-◌, Bool, true, nat_lt, List, length, if◌then◌else◌}
use Rattle.root_slots.specs.Live.{SlotPair}
use Rattle.group_commit.specs.Saved.{Saved}
use Rattle.group_commit.specs.declared.phase.Phase.{Phase}
use Rattle.group_commit.specs.declared.phase.Phase.TheVariants.{Idle, Pages, Close, Sync1, Body, Sync2, Gate, Sync3}

-- the disk, the phase of the commit, the live slot and its root, the root that the commit makes, the numbers of the new pages
-- that it writes, whether the stale gate reads 1, and whether a device call has failed
pub record StoreHeld (D : Type 0) : Type 0 where
  pub disk : D
  pub phase : Phase
  pub slot : ℕ
  pub current : Saved
  pub next : Saved
  pub numbers : List ℕ
  pub stale_open : Bool
  pub failed : Bool

-- a store of this disk, phase and slots, with these roots and new pages
abbrev pub held_of : {D : Type 0} → D → Phase → SlotPair → Saved → Saved → List ℕ → Bool → StoreHeld D
held_of disk phase slots current next numbers failed = record {
  disk = disk;
  phase = phase;
  slot = slots.slot;
  current = current;
  next = next;
  numbers = numbers;
  stale_open = slots.stale_open;
  failed = failed;
}

-- the phase behind k written pages
abbrev pub behind_pages : ℕ → ℕ → Bool → Phase
behind_pages k new_pages stale_open = if nat_lt k new_pages then Pages k else if stale_open then Close else Sync1

-- what a device call that succeeds in a phase makes of the store; after the last one the new root is live
abbrev pub gone_on : {D : Type 0} → Phase → StoreHeld D → D → StoreHeld D
gone_on Idle held disk = record held { disk = disk }
gone_on (Pages k) held disk = record held { disk = disk; phase = behind_pages (k + 1) (length held.numbers) held.stale_open }
gone_on Close held disk = record held { disk = disk; phase = Sync1 }
gone_on Sync1 held disk = record held { disk = disk; phase = Body }
gone_on Body held disk = record held { disk = disk; phase = Sync2 }
gone_on Sync2 held disk = record held { disk = disk; phase = Gate }
gone_on Gate held disk = record held { disk = disk; phase = Sync3 }
gone_on Sync3 held disk =
    record held { disk = disk; phase = Idle; slot = 1 - held.slot; current = held.next; next = held.current; stale_open = true }

-- the phase in which a failed call leaves a commit: behind a write that may be there or not, else where it was
abbrev pub left_at : Phase → Phase
left_at Close = Sync1
left_at Body = Sync2
left_at Gate = Sync3
left_at phase = phase

-- what a device call that fails makes of the store
abbrev pub has_failed : {D : Type 0} → StoreHeld D → D → StoreHeld D
has_failed held disk = record held { disk = disk; phase = left_at held.phase; failed = true }
