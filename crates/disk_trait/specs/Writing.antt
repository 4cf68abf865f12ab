-- What a write of some bytes does to the disk.
use Rattle.std.specs.Prelude.{◌≡◌, ℕ, List, length, Result, Ok, Err, OnOk}
use Rattle.disk_trait.specs.Calls.{IsOneCall, Tears}
use Rattle.disk_trait.specs.File.{overwritten}
use Rattle.disk_trait.specs.declared.facts.DiskFacts.{Ghosts}

-- a call that answers so has met a failure of the device, or not
abbrev pub failures_in : {T E : Type 0} → Result T E → ℕ
failures_in (Ok x) = 0
failures_in (Err e) = 1

-- One write of these bytes at a place. Outside of their range nothing changes, in what reads give
-- and in what a crash may leave. Where the call succeeds, they are there; it is refused only where
-- the device failed.
pub record Writes {D T E : Type 0} (facts : Ghosts D) (result : Result T E) (at : ℕ)
    (bytes : List ℕ) (old new : D) : Type 0 where
  pub torn : Tears facts at (length bytes) old new
  pub written : OnOk result (facts.content new ≡ overwritten (facts.content old) at bytes)
  pub call : IsOneCall facts (failures_in result) 1 0 old new
