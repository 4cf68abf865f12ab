-- One device call of a commit under way, with what it makes of a hub.
use Rattle.std.proofs.Common.{Bool, ◌≡◌, ℕ, ◌-◌, true, false, List, refl, sym, ◌∙◌, inl, inr, ◌⊎◌, Result}
use Rattle.disk_trait.specs.declared.facts.DiskFacts.{Ghosts}
use Rattle.op_model.specs.Machine.{Answer, device_step, goes_on, goes_through, refused, Step}
use Rattle.root_slots.specs.Root.{count_of}
use Rattle.op_model.specs.Held.{ReplicaHeld}
use Rattle.group_commit.specs.Begin.{is_idle}
use Rattle.group_commit.specs.Held.{StoreHeld}
use Rattle.group_commit.specs.Step.{Call, IsDeviceCall, IsLeftAround, failures_in as failures_of}
use Rattle.group_commit.specs.declared.error.StoreError.{StoreError}
use Rattle.hub_parts.proofs.WiderMoments.{moments_of}
use Rattle.locked_replica.specs.Hub.{state_of}
use Rattle.locked_replica.proofs.Fits.{Fits, IsUnderWay}
use Rattle.locked_replica.specs.Calls.{IsCall, IsLeftIn, Counts, StepsOn, StepsFail, StoreSteps, calls_in, failures_in}
use Rattle.locked_replica.proofs.PartsOf.{parts}
use Rattle.locked_replica.proofs.Recovering.{survivor_has_settled, survivor_is_left, left_of, left_has}
use Rattle.std.proofs.lemmas.Bool.{lt-ltb}

-- one device call of a commit under way, with what it makes of the hub
device_call : {D : Type 0} {failure_told : Bool} {T : Type 0} (facts : Ghosts D) (h : ReplicaHeld) (s new : StoreHeld D) (made : Call) (result : Result T StoreError)
    (answer : Answer) → Fits facts (parts h s failure_told) → is_idle s.phase ≡ false → IsDeviceCall facts made result s new
    → Step (state_of (parts h s failure_told)) device_step answer (state_of (parts h new failure_told))
    → calls_in device_step answer ≡ 1 → failures_of result ≡ failures_in device_step answer
    → Fits facts (parts h new failure_told) → Counts facts answer s new → StoreSteps facts answer s new
    → IsCall facts device_step answer (parts h s failure_told) (parts h new failure_told)
device_call {failure_told = failure_told} facts h s new made result answer fits busy call step one failing after counts goes =
    record {
      step = step;
      sound = fits.sound;
      store = goes;
      tells = call.tells;
      time = λ told. rw one ((call.call told).one_more);
      failures = λ told. rw (sym failing) ((call.call told).failures);
      moments = λ told. moments_of facts s.disk new.disk (IsLeftAround s new) (IsLeftIn (parts h s failure_told) (parts h new failure_told)) around
          (call.moments told);
      left = λ told file survives. survivor_has_settled facts (parts h new failure_told) file after told survives;
      recovers = λ told file survives. survivor_is_left facts (parts h new failure_told) file after told survives;
      counts = counts;
    }
  where
    around : (file : List ℕ) → IsLeftAround s new file → IsLeftIn (parts h s failure_told) (parts h new failure_told) file
    around file (inl is) =
        let left = left_of facts (parts h s failure_told) file fits is in
        record { has = left_has facts (parts h s failure_told) file fits left; around = inl left }
    around file (inr is) =
        let left = left_of facts (parts h new failure_told) file after is in
        record { has = left_has facts (parts h new failure_told) file after left; around = inr left }

-- the commit goes on
pub call_goes_on : {D : Type 0} {failure_told : Bool} {T : Type 0} (facts : Ghosts D) (h : ReplicaHeld) (s new : StoreHeld D) (made : Call) (result : Result T StoreError)
    → Fits facts (parts h s failure_told) → s.failed ≡ false → is_idle s.phase ≡ false → IsDeviceCall facts made result s new
    → is_idle new.phase ≡ false → new.current ≡ s.current → new.next ≡ s.next → new.failed ≡ false
    → Fits facts (parts h new failure_told)
    → Counts facts goes_on s new → failures_of result ≡ 0 → StepsOn facts s new
    → IsCall facts device_step goes_on (parts h s failure_told) (parts h new failure_told)
call_goes_on {failure_told = failure_told} facts h s new made result fits works busy call busy' current next works' after counts none goes =
    device_call facts h s new made result goes_on fits busy call (rw (works, busy, works', busy', current, next) (refl, refl, refl)) refl none after counts goes

-- the commit is through
pub call_goes_through : {D : Type 0} {failure_told : Bool} {T : Type 0} (facts : Ghosts D) (h : ReplicaHeld) (s new : StoreHeld D) (made : Call)
    (result : Result T StoreError) → Fits facts (parts h s failure_told) → s.failed ≡ false → is_idle s.phase ≡ false
    → IsDeviceCall facts made result s new → is_idle new.phase ≡ true → new.current ≡ s.next → new.failed ≡ false
    → Fits facts (parts h new failure_told)
    → Counts facts goes_through s new → failures_of result ≡ 0 → StepsOn facts s new
    → IsCall facts device_step goes_through (parts h s failure_told) (parts h new failure_told)
call_goes_through {failure_told = failure_told} facts h s new made result fits works busy call rest current works' after counts none goes =
    let way : IsUnderWay h s.current s.next = rw busy at fits.commit in
    let more = lt-ltb h.settled (count_of s.next.body) way.owed.more in
    device_call facts h s new made result goes_through fits busy call (rw (works, busy, works', rest, current, more, way.version) (refl, refl, refl)) refl none after counts goes

-- the device failed
pub call_fails : {D : Type 0} {failure_told : Bool} {T : Type 0} (facts : Ghosts D) (h : ReplicaHeld) (s new : StoreHeld D) (made : Call) (result : Result T StoreError)
    (n : ℕ) → Fits facts (parts h s failure_told) → s.failed ≡ false → is_idle s.phase ≡ false → IsDeviceCall facts made result s new
    → is_idle new.phase ≡ false → new.current ≡ s.current → new.next ≡ s.next → new.failed ≡ true → (n ≡ 51) ⊎ (n ≡ 52)
    → Fits facts (parts h new failure_told)
    → Counts facts (refused n) s new → failures_of result ≡ 1 → StepsFail facts n s new
    → IsCall facts device_step (refused n) (parts h s failure_told) (parts h new failure_told)
call_fails {failure_told = failure_told} facts h s new made result n fits works busy call busy' current next failed is after counts some goes =
    device_call facts h s new made result (refused n) fits busy call
    (inr (works, rw busy refl, is, rw (busy, failed, busy', current, next) refl)) (one n is) (some ∙ sym (one n is)) after counts (inr goes)
  where
    one : (n : ℕ) → (n ≡ 51) ⊎ (n ≡ 52) → calls_in device_step (refused n) ≡ 1
    one n (inl is) = rw is refl
    one n (inr is) = rw is refl
