-- Settlements of a commit that is through.
use Rattle.std.proofs.Common.{◌≡◌, ◌-◌, ◌<◌, Bool, true, false, ◌&&◌, nat_lt, refl, arith}
use Rattle.disk_trait.specs.Calls.{IsLawful}
use Rattle.disk_trait.specs.declared.facts.DiskFacts.{Ghosts}
use Rattle.op_model.specs.Machine.{settle, refused, settled_to, Step}
use Rattle.root_slots.specs.Root.{count_of}
use Rattle.op_model.specs.Held.{ReplicaHeld, with_settled}
use Rattle.group_commit.specs.Begin.{is_idle}
use Rattle.group_commit.specs.Held.{StoreHeld}
use Rattle.locked_replica.specs.Hub.{committed, state_of}
use Rattle.locked_replica.proofs.Fits.{Fits, fits_told}
use Rattle.locked_replica.specs.Calls.{IsCall}
use Rattle.locked_replica.proofs.PartsOf.{parts}
use Rattle.locked_replica.proofs.QuietCalls.{quiet_call, quiet_same, counts_same}
use Rattle.locked_replica.proofs.StateLemmas.{not_through}
use Rattle.std.proofs.lemmas.Bool.{lt-ltb, le-ltb}

-- a settlement of the commit that is through
pub settle_made : {D : Type 0} {failure_told : Bool} (facts : Ghosts D) (h : ReplicaHeld) (s : StoreHeld D) → (facts.tells s.disk → IsLawful facts s.disk)
    → Fits facts (parts h s failure_told) → Fits facts (parts (with_settled h (committed s)) s failure_told) → s.failed ≡ false → is_idle s.phase ≡ true
    → h.settled < committed s
    → IsCall facts settle (settled_to (committed s)) (parts h s failure_told) (parts (with_settled h (committed s)) s failure_told)
settle_made {failure_told = failure_told} facts h s lawful fits after works idle less =
    quiet_call facts settle (settled_to (committed s)) (parts h s failure_told) (parts (with_settled h (committed s)) s failure_told) refl lawful
    after step (omega (arith, less)) refl (counts_same facts _ s refl refl) refl
  where
    step : Step (state_of (parts h s failure_told)) settle (settled_to (committed s)) (state_of (parts (with_settled h (committed s)) s failure_told))
    step =
        rw (works, idle, lt-ltb h.settled (committed s) less, le-ltb (committed s) (committed s) (omega arith))
        (refl, refl)

pub settle_failed : {D : Type 0} {failure_told : Bool} (facts : Ghosts D) (h : ReplicaHeld) (s : StoreHeld D) → (facts.tells s.disk → IsLawful facts s.disk)
    → Fits facts (parts h s failure_told) → s.failed ≡ true → IsCall facts settle (refused 44) (parts h s failure_told) (parts h s true)
settle_failed {failure_told = failure_told} facts h s lawful fits failed =
    quiet_same facts settle (refused 44) h s lawful (fits_told facts (parts h s failure_told) true fits) (rw failed (refl, refl)) refl refl refl refl

pub settle_busy : {D : Type 0} {failure_told : Bool} (facts : Ghosts D) (h : ReplicaHeld) (s : StoreHeld D) → (facts.tells s.disk → IsLawful facts s.disk)
    → Fits facts (parts h s failure_told) → s.failed ≡ false → (is_idle s.phase && nat_lt h.settled (committed s)) ≡ false
    → IsCall facts settle (refused 8) (parts h s failure_told) (parts h s failure_told)
settle_busy {failure_told = failure_told} facts h s lawful fits works none =
    let no_commit = not_through (is_idle s.phase) h.settled (committed s) (count_of s.next.body) none in
    quiet_same facts settle (refused 8) h s lawful fits (rw (works, no_commit) (refl, refl)) refl refl refl refl
