-- What is known of a disk in memory.
use Rattle.std.specs.Prelude.{◌≡◌, ◌↔◌, ℕ, ◌-◌, Bool, List, length, Result, IsOk}
use Rattle.disk_trait.specs.Medium.{Leaves}
use Rattle.disk_trait.specs.Past.{LeftSince}
use Rattle.disk_trait.specs.Crash.{left}
use Rattle.disk_trait.specs.declared.error.DiskError.{DiskError}
use Rattle.disk_trait.specs.declared.medium.Fate.{Fate}
use Rattle.disk_trait.specs.declared.memory.MemDisk.{MemDisk}

-- the file as reads give it
abbrev pub content_of : MemDisk → List ℕ
content_of disk = disk.medium.bytes.items

-- a crash now may leave this file
abbrev pub Survives : MemDisk → List ℕ → Type 0
Survives disk = Leaves disk.medium

-- how many calls there were
abbrev pub time_of : MemDisk → ℕ
time_of disk = length disk.log.found

-- how many calls, writes, syncs and failures there were
abbrev pub numbers_of : MemDisk → ℕ × ℕ × ℕ × ℕ
numbers_of disk = (time_of disk, disk.log.writes, disk.log.syncs, disk.log.failures)

-- how many calls it still makes
abbrev pub calls_of : MemDisk → ℕ
calls_of disk = disk.calls_left

-- the most bytes that its file may have
abbrev pub room_of : MemDisk → ℕ
room_of disk = disk.medium.room

-- a crash since that time may have left this file
abbrev pub left_of : MemDisk → ℕ → List ℕ → Type 0
left_of disk = LeftSince Leaves disk.medium disk.log

-- what a crash makes of its file
abbrev pub left_by : Fate → Bool → MemDisk → List ℕ
left_by fate grown disk =
    left fate grown disk.medium.bytes.items disk.medium.settled.items disk.medium.unsettled.items

-- a call that answers so is done exactly on this condition, and uses up one of the disk's calls
pub record UsesCall {T : Type 0} (answer : Result T DiskError) (condition : Type 0)
    (old new : MemDisk) : Type 0 where
  pub done : IsOk answer ↔ condition
  pub used : calls_of new ≡ calls_of old - 1
