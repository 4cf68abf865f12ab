-- Begins that are answered before the store is asked.
use Rattle.std.proofs.Common.{◌≡◌, Bool, true, false, refl}
use Rattle.std.specs.Prelude.{is_some}
use Rattle.disk_trait.specs.Calls.{IsLawful}
use Rattle.disk_trait.specs.declared.facts.DiskFacts.{Ghosts}
use Rattle.op_model.specs.Machine.{begin, refused}
use Rattle.op_model.specs.Held.{ReplicaHeld}
use Rattle.group_commit.specs.Held.{StoreHeld}
use Rattle.locked_replica.specs.Hub.{commit_of}
use Rattle.locked_replica.specs.Calls.{IsCall}
use Rattle.locked_replica.proofs.Fits.{Fits, fits_told}
use Rattle.locked_replica.proofs.PartsOf.{parts}
use Rattle.locked_replica.proofs.QuietCalls.{quiet_same}

-- a begin of a hub whose device failed
pub begin_failed : {D : Type 0} {failure_told : Bool} (facts : Ghosts D) (h : ReplicaHeld) (s : StoreHeld D) → (facts.tells s.disk → IsLawful facts s.disk)
    → Fits facts (parts h s failure_told) → s.failed ≡ true → IsCall facts begin (refused 44) (parts h s failure_told) (parts h s true)
begin_failed {failure_told = failure_told} facts h s lawful fits failed =
    quiet_same facts begin (refused 44) h s lawful (fits_told facts (parts h s failure_told) true fits) (rw failed (refl, refl)) refl refl refl refl

-- one of a hub that has a commit
pub begin_busy : {D : Type 0} {failure_told : Bool} (facts : Ghosts D) (h : ReplicaHeld) (s : StoreHeld D) → (facts.tells s.disk → IsLawful facts s.disk)
    → Fits facts (parts h s failure_told) → s.failed ≡ false → is_some (commit_of h s) ≡ true
    → IsCall facts begin (refused 8) (parts h s failure_told) (parts h s failure_told)
begin_busy {failure_told = failure_told} facts h s lawful fits works some =
    quiet_same facts begin (refused 8) h s lawful fits (rw (works, some) (refl, refl)) refl refl refl refl
