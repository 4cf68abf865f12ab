-- What the calls of a store that keeps its rules do, phase by phase, and which slot is live.
use Rattle.std.proofs.Common.{◌≡◌, ℕ, Bool, ◌-◌, ◌≤◌, List, length, Ok}
use Rattle.disk_trait.specs.Calls.{IsLawful}
use Rattle.disk_trait.specs.declared.facts.DiskFacts.{Ghosts}
use Rattle.root_slots.specs.Slots.{gate, live}
use Rattle.group_commit.specs.Saved.{Saved}
use Rattle.group_commit.specs.Standing.{Stands}
use Rattle.group_commit.specs.Held.{StoreHeld}
use Rattle.group_commit.specs.Standing.{IsSoundStore}
use Rattle.group_commit.specs.declared.phase.Phase.{Phase}
use Rattle.group_commit.specs.declared.phase.Phase.TheVariants.{Idle, Close}
use Rattle.group_commit.proofs.Steps.{live_by_older}

-- in phase Close the stale gate reads 1
one_in_close : (phase : Phase) (slot : ℕ) (stale_open : Bool) (current next : Saved) (file : List ℕ) → phase ≡ Close → Stands phase slot stale_open current next file
    → gate (1 - slot) file ≡ 1
one_in_close phase slot stale_open current next file is stood = (rw (is) at stood.stale_slot).1

module _ {D : Type 0} (facts : Ghosts D) where
  pub reads_one : (held : StoreHeld D) (numbers fresh : List ℕ) → IsSoundStore facts held held.slot numbers fresh → held.phase ≡ Close → facts.tells held.disk
      → IsLawful facts held.disk → gate (1 - held.slot) (facts.content held.disk) ≡ 1
  reads_one held numbers fresh sound is tells lawful =
      one_in_close held.phase held.slot held.stale_open held.current held.next (facts.content held.disk) is
      (sound.stands tells (facts.content held.disk) lawful.reads_survive)

  -- both slots lie whole in the file as it reads
  pub slots_whole : (held : StoreHeld D) (slot : ℕ) (numbers fresh : List ℕ) → IsSoundStore facts held slot numbers fresh → facts.tells held.disk → IsLawful facts held.disk
      → 8192 ≤ length (facts.content held.disk)
  slots_whole held slot numbers fresh sound tells lawful = (sound.stands tells (facts.content held.disk) lawful.reads_survive).whole

  -- between two commits the live slot of each survivor is the store's
  pub live_idle : (held : StoreHeld D) (slot : ℕ) (numbers fresh : List ℕ) → IsSoundStore facts held slot numbers fresh → held.phase ≡ Idle → facts.tells held.disk
      → (c : List ℕ) → facts.survives held.disk c → live c ≡ Ok slot
  live_idle held slot numbers fresh sound is tells c left =
      live_by_older slot held.stale_open held.current held.next c sound.slots (rw (is) at sound.stands tells c left)
