-- What each step of a commit does to the disk.
use Rattle.std.proofs.Common.{◌≡◌, ◌≢◌, ◌↔◌, ℕ, Bool, true, ◌<◌, List, refl, sym, ap, ◌∙◌, inl, inr, Result, Ok, Err, IfErr}
use Rattle.disk_trait.specs.Calls.{IsOneCall, IsLawful}
use Rattle.disk_trait.specs.declared.facts.DiskFacts.{Ghosts}
use Rattle.disk_trait.proofs.Moments.{moments_of_call}
use Rattle.group_commit.specs.Saved.{Saved}
use Rattle.group_commit.specs.Commit.{IsLeft}
use Rattle.group_commit.specs.Standing.{Stands}
use Rattle.group_commit.specs.Held.{StoreHeld, gone_on, left_at}
use Rattle.group_commit.specs.Standing.{IsPlan, IsSoundStore}
use Rattle.group_commit.specs.Step.{failures_in, Call, call_in, writes_of, syncs_of, error_of, IsDeviceCall, IsLeftAround, Does, MakesCall}
use Rattle.group_commit.specs.declared.error.StoreError.{StoreError}
use Rattle.group_commit.specs.declared.phase.Phase.{Phase}
use Rattle.group_commit.specs.declared.phase.Phase.TheVariants.{Idle, Pages, Close, Sync1, Body, Sync2, Gate, Sync3}
use Rattle.group_commit.proofs.Steps.{is_left, is_idle}

-- in each phase the image is the live root or the next one
left_in : (p : Phase) (slot : ℕ) (stale_open : Bool) (current next : Saved) (numbers fresh : List ℕ) (c : List ℕ) → slot < 2
    → (p ≢ Idle → IsPlan p current next numbers fresh) → Stands p slot stale_open current next c → IsLeft p current next c
left_in Idle slot stale_open current next numbers fresh c below plan stood = is_idle slot stale_open current next c below stood
left_in (Pages k) slot stale_open current next numbers fresh c below plan stood = is_left (Pages k) slot stale_open current next c below (plan (λ is. absurd cc)).newer stood
left_in Close slot stale_open current next numbers fresh c below plan stood = is_left Close slot stale_open current next c below (plan (λ is. absurd cc)).newer stood
left_in Sync1 slot stale_open current next numbers fresh c below plan stood = is_left Sync1 slot stale_open current next c below (plan (λ is. absurd cc)).newer stood
left_in Body slot stale_open current next numbers fresh c below plan stood = is_left Body slot stale_open current next c below (plan (λ is. absurd cc)).newer stood
left_in Sync2 slot stale_open current next numbers fresh c below plan stood = is_left Sync2 slot stale_open current next c below (plan (λ is. absurd cc)).newer stood
left_in Gate slot stale_open current next numbers fresh c below plan stood = is_left Gate slot stale_open current next c below (plan (λ is. absurd cc)).newer stood
left_in Sync3 slot stale_open current next numbers fresh c below plan stood = is_left Sync3 slot stale_open current next c below (plan (λ is. absurd cc)).newer stood

module _ {D : Type 0} (facts : Ghosts D) where
  -- what a crash now leaves of a store
  pub left_of : (held : StoreHeld D) (slot : ℕ) (numbers fresh : List ℕ) → IsSoundStore facts held slot numbers fresh → facts.tells held.disk
      → (c : List ℕ) → facts.survives held.disk c → IsLeft held.phase held.current held.next c
  left_of held slot numbers fresh sound tells c left =
      left_in held.phase slot held.stale_open held.current held.next numbers fresh c sound.slots sound.plan (sound.stands tells c left)

  -- a device call between two sound stores
  pub device_call : (T : Type 0) (made : Call) (result : Result T StoreError) (inside old new : StoreHeld D) (slot slot' : ℕ)
      (numbers fresh : List ℕ) → inside ≡ old
      → IsSoundStore facts inside slot numbers fresh → IsSoundStore facts new slot' numbers fresh
      → (facts.tells new.disk ↔ facts.tells inside.disk)
      → (facts.tells inside.disk → IsOneCall facts (failures_in result) (writes_of made) (syncs_of made) inside.disk new.disk)
      → (facts.tells inside.disk → IsLawful facts inside.disk) → IfErr result (λ e. e ≡ error_of made)
      → IsDeviceCall facts made result old new
  device_call T made result inside old new slot slot' numbers fresh same sound sound' told call lawful refused =
      rw (sym same) (record {
        tells = told;
        call = call;
        moments = λ tells. moments_of_call facts (IsLeftAround inside new) inside.disk new.disk (lawful tells) (call tells)
            (λ c left. inl (left_of inside slot numbers fresh sound tells c left))
            (λ c left. inr (left_of new slot' numbers fresh sound' (told.1 tells) c left));
        left = left_of new slot' numbers fresh sound';
        refused = refused;
      })

  -- the device call of a phase was made, between two sound stores
  pub call_made : (phase : Phase) (inside old new : StoreHeld D) (slot slot' : ℕ) (numbers fresh : List ℕ) → inside ≡ old → inside.phase ≡ phase
      → IsSoundStore facts inside slot numbers fresh → IsSoundStore facts new slot' numbers fresh
      → (facts.tells new.disk ↔ facts.tells inside.disk)
      → (facts.tells inside.disk → IsOneCall facts 0 (writes_of (call_in phase)) (syncs_of (call_in phase)) inside.disk new.disk)
      → (facts.tells inside.disk → IsLawful facts inside.disk) → new ≡ gone_on phase inside new.disk
      → (facts.tells inside.disk → Does {T = Phase} facts (Ok phase) (call_in phase) inside new.disk)
      → MakesCall facts phase (Ok phase) old new
  call_made phase inside old new slot slot' numbers fresh same at sound sound' told call lawful goes does =
      rw (sym same) (record {
        made = sym at;
        went_on = goes ∙ ap (λ p. gone_on p inside new.disk) (sym at);
        failed = tt;
        call = device_call Phase (call_in phase) (Ok phase) inside inside new slot slot' numbers fresh refl sound sound' told call lawful tt;
        does = does;
      })

  -- the device call of a phase failed, between two sound stores
  pub call_failed : (phase : Phase) (e : StoreError) (inside old new : StoreHeld D) (slot slot' : ℕ) (numbers fresh : List ℕ) → inside ≡ old
      → inside.phase ≡ phase → IsSoundStore facts inside slot numbers fresh → IsSoundStore facts new slot' numbers fresh
      → (facts.tells new.disk ↔ facts.tells inside.disk)
      → (facts.tells inside.disk → IsOneCall facts 1 (writes_of (call_in phase)) (syncs_of (call_in phase)) inside.disk new.disk)
      → (facts.tells inside.disk → IsLawful facts inside.disk) → e ≡ error_of (call_in phase)
      → new ≡ record inside { disk = new.disk; phase = left_at phase; failed = true }
      → (facts.tells inside.disk → Does {T = Phase} facts (Err e) (call_in phase) inside new.disk)
      → MakesCall facts phase (Err e) old new
  call_failed phase e inside old new slot slot' numbers fresh same at sound sound' told call lawful refused fails does =
      rw (sym same) (record {
        made = tt;
        went_on = tt;
        failed = rw at fails;
        call = device_call Phase (call_in phase) (Err e) inside inside new slot slot' numbers fresh refl sound sound' told call lawful refused;
        does = does;
      })
