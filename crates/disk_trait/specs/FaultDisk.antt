-- What is known of a disk of which one call fails.
use Rattle.std.specs.Prelude.{◌≡◌, ◌≢◌, ℕ, ◌-◌, length}
use Rattle.disk_trait.specs.Calls.{IsOneCall}
use Rattle.disk_trait.specs.declared.facts.DiskFacts.{Ghosts}
use Rattle.disk_trait.specs.declared.fault.FaultDisk.{FaultDisk}

-- the disk below
abbrev pub disk_of : {D : Type 0} → FaultDisk D → D
disk_of it = it.disk

-- how many calls there are till the one that fails, that one counted; 0 where none does
abbrev pub calls_to_fault : {D : Type 0} → FaultDisk D → ℕ
calls_to_fault it = it.calls_to_fault

-- how many calls, writes, syncs and failures there were
abbrev pub numbers_of : {D : Type 0} → FaultDisk D → ℕ × ℕ × ℕ × ℕ
numbers_of it = (length it.log.found, it.log.writes, it.log.syncs, it.log.failures)

-- the call whose turn it is to fail has this answer, and any other is one call of the disk below
pub record TakesTurn {D : Type 0} (facts : Ghosts D) (fails : Type 0)
    (more_failures more_writes more_syncs : ℕ) (old new : FaultDisk D) : Type 0 where
  pub counted : calls_to_fault new ≡ calls_to_fault old - 1
  pub in_turn : calls_to_fault old ≡ 1 → fails
  pub passes : calls_to_fault old ≢ 1 → facts.tells (disk_of old)
      → IsOneCall facts more_failures more_writes more_syncs (disk_of old) (disk_of new)
