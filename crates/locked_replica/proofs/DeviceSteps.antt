-- A device step of a hub, as its store answers it.
use Rattle.std.proofs.Common.{◌≡◌, ◌≢◌, ℕ, ◌+◌, Bool, true, false, length, refl, sym, ap, subst, ◌∙◌, arith, inl, inr, ◌⊎◌, Result, Ok, Err}
use Rattle.disk_trait.specs.Calls.{IsLawful, IsOneCall}
use Rattle.disk_trait.specs.declared.facts.DiskFacts.{Ghosts}
use Rattle.op_model.specs.Machine.{Answer, device_step, idle as idle_answer, goes_on, goes_through, refused}
use Rattle.root_slots.specs.Root.{count_of}
use Rattle.op_model.specs.Held.{ReplicaHeld}
use Rattle.group_commit.specs.Begin.{is_idle}
use Rattle.group_commit.specs.Errors.{number_of}
use Rattle.group_commit.specs.Held.{gone_on, has_failed, left_at, StoreHeld}
use Rattle.group_commit.specs.Counts.{writes_from, writes_left, syncs_left, IsWriting}
use Rattle.group_commit.proofs.CountLemmas.{writes_fall, syncs_fall}
use Rattle.group_commit.specs.Step.{call_in, Does, error_of, writes_of, syncs_of, failures_in}
use Rattle.hub_parts.specs.Flusher.{IsStoreStep}
use Rattle.group_commit.specs.declared.error.StoreError.{StoreError}
use Rattle.group_commit.specs.declared.error.StoreError.TheVariants.{Failed, WriteFailed}
use Rattle.group_commit.specs.declared.phase.Phase.{Phase}
use Rattle.group_commit.specs.declared.phase.Phase.TheVariants.{Idle, Pages, Close, Sync1, Body, Sync2, Gate, Sync3}
use Rattle.locked_replica.specs.Hub.{committed}
use Rattle.locked_replica.proofs.Fits.{Fits}
use Rattle.locked_replica.specs.Calls.{IsCall, IsCounted, NoWriteFails, Counts, StepsOn, writes_begun, syncs_begun}
use Rattle.locked_replica.specs.Steps.{stepped_in}
use Rattle.locked_replica.proofs.PartsOf.{parts}
use Rattle.locked_replica.proofs.QuietCalls.{quiet_same}
use Rattle.locked_replica.proofs.StateLemmas.{no_call_due}
use Rattle.hub_parts.proofs.PhaseLemmas.{going_busy, kind_of, failed_busy, device_number, kept_current, kept_working, not_idle, is_busy}
use Rattle.locked_replica.proofs.PhaseLemmas.{goes_on_in}
use Rattle.locked_replica.proofs.DeviceCalls.{call_goes_on, call_goes_through, call_fails}

-- a page that is written is one of the new ones
page_is_new : {D : Type 0} (facts : Ghosts D) (s : StoreHeld D) (new : D) (answer : Result Phase StoreError) → Does {T = Phase} facts answer (call_in s.phase) s new
    → IsWriting s
page_is_new facts s new answer does k at_page = (subst (λ p. Does {T = Phase} facts answer (call_in p) s new) at_page does).within

-- a call is counted as its phase's
counted_by : {D : Type 0} (facts : Ghosts D) (s new : StoreHeld D) (answer : Result Phase StoreError)
    → IsOneCall facts (failures_in answer) (writes_of (call_in s.phase)) (syncs_of (call_in s.phase)) s.disk new.disk → IsCounted facts s new
counted_by facts s new answer call = record { writes = call.writes; syncs = call.syncs }

-- a device call that succeeds makes its part of the writes and syncs that are left
counts_on : {D : Type 0} (facts : Ghosts D) (s new : StoreHeld D) (p : Phase) (answer : Answer) → writes_begun answer new ≡ 0 → syncs_begun answer ≡ 0
    → s.failed ≡ false → IsStoreStep facts s (Ok p) new → s.phase ≢ Idle → new ≡ gone_on s.phase s new.disk → Counts facts answer s new
counts_on facts s new p answer none none_syncs works stepped busy gone =
    record {
      stays = λ failed. absurd (cc);
      writes = λ told working.
          let call = ((stepped.call works busy).call told).writes in
          let left = writes_fall s new.disk (page_is_new facts s new.disk (Ok p) (stepped.does works told)) in
          let after = ap writes_left gone in
          omega (arith, call, left, after, none);
      syncs = λ told working.
          let call = ((stepped.call works busy).call told).syncs in
          let left = syncs_fall s new.disk in
          let after = ap syncs_left gone in
          omega (arith, call, left, after, none_syncs);
    }

-- a sync that fails makes no write, and leaves those that were left
sync_keeps : (phase : Phase) (pages : ℕ) (stale_open : Bool) → error_of (call_in phase) ≢ WriteFailed
    → (writes_of (call_in phase) ≡ 0) × (writes_from (left_at phase) pages stale_open ≡ writes_from phase pages stale_open)
sync_keeps Idle pages stale_open other = absurd (other refl)
sync_keeps (Pages k) pages stale_open other = absurd (other refl)
sync_keeps Close pages stale_open other = absurd (other refl)
sync_keeps Sync1 pages stale_open other = (refl, refl)
sync_keeps Body pages stale_open other = absurd (other refl)
sync_keeps Sync2 pages stale_open other = (refl, refl)
sync_keeps Gate pages stale_open other = absurd (other refl)
sync_keeps Sync3 pages stale_open other = (refl, refl)

-- the counts behind one that fails
counts_failed : {D : Type 0} (facts : Ghosts D) (s new : StoreHeld D) (e : StoreError) → s.failed ≡ false → new.failed ≡ true → IsStoreStep facts s (Err e) new
    → s.phase ≢ Idle → e ≡ error_of (call_in s.phase) → new ≡ has_failed s new.disk → Counts facts (refused (number_of e)) s new
counts_failed facts s new e works failed stepped busy error gone =
    record { stays = λ was. failed; writes = λ told none. by_cause told none; syncs = λ told working. absurd (cc) }
  where
    by_cause : facts.tells s.disk → NoWriteFails (refused (number_of e)) new → facts.writes new.disk + writes_left new ≡ facts.writes s.disk + writes_left s + 0
    by_cause told (inl working) = absurd (cc)
    by_cause told (inr other) =
        let call = ((stepped.call works busy).call told).writes in
        let kept = sync_keeps s.phase (length s.numbers) s.stale_open (λ is. other (ap (λ e. refused (number_of e)) (error ∙ is))) in
        let none = kept.0 in
        let same = kept.1 in
        let after = ap writes_left gone in
        omega (arith, call, none, same, after)

-- one answer has one error
same_error : (answer : Result Phase StoreError) (e f : StoreError) → answer ≡ Err e → answer ≡ Err f → e ≡ f
same_error answer e f is same = cc

-- and none is an error and a phase
never_both : (answer : Result Phase StoreError) (e : StoreError) (p : Phase) → answer ≡ Err e → answer ≡ Ok p → ⊥
never_both answer e p is same = absurd (cc)

-- a device step that is answered with a phase
pub step_made : {D : Type 0} {failure_told : Bool} (facts : Ghosts D) (h : ReplicaHeld) (s new : StoreHeld D) (p : Phase) → (facts.tells s.disk → IsLawful facts s.disk)
    → Fits facts (parts h s failure_told) → Fits facts (parts h new failure_told) → IsStoreStep facts s (Ok p) new
    → IsCall facts device_step (stepped_in p) (parts h s failure_told) (parts h new failure_told)
step_made {D} {failure_told = failure_told} facts h s new p lawful fits after stepped = rw stepped.made (by_kind (kind_of s.phase))
  where
    works : s.failed ≡ false
    works = by_test s.failed refl
      where
        by_test : (t : Bool) → s.failed ≡ t → s.failed ≡ false
        by_test true failed = absurd (never_both (Ok p) Failed p (stepped.stopped failed).0 refl)
        by_test false is = is

    gone : new ≡ gone_on s.phase s new.disk
    gone = stepped.went_on works

    steps : s.phase ≢ Idle → StepsOn facts s new
    steps busy = record {
      counted = λ told. counted_by facts s new (Ok p) ((stepped.call works busy).call told);
      next = gone;
      does = λ told. subst (λ q. Does {T = Phase} facts (Ok q) (call_in s.phase) s new.disk) stepped.made (stepped.does works told);
    }

    by_kind : (s.phase ≡ Idle) ⊎ ((s.phase ≡ Sync3) ⊎ ((is_idle s.phase ≡ false) × (s.phase ≢ Sync3)))
        → IsCall facts device_step (stepped_in s.phase) (parts h s failure_told) (parts h new failure_told)
    by_kind (inl is) =
        let rest : is_idle s.phase ≡ true = ap is_idle is in
        rw (stepped.idle works is).1 (
        subst (λ q. IsCall facts device_step (stepped_in q) (parts h s failure_told) (parts h s failure_told)) (sym is) (
        quiet_same facts device_step idle_answer h s lawful fits (works, rw rest (no_call_due h.settled (committed s) (count_of s.next.body)), refl) refl refl refl
        refl))
    by_kind (inr (inl is)) =
        let busy : is_idle s.phase ≡ false = ap is_idle is in
        let done : new ≡ gone_on Sync3 s new.disk = gone ∙ ap (λ q. gone_on q s new.disk) is in
        let rest : is_idle new.phase ≡ true = ap (λ t. is_idle t.phase) done in
        let current : new.current ≡ s.next = ap (λ t. t.current) done in
        let works' : new.failed ≡ false = ap (λ t. t.failed) done ∙ works in
        let its_call = stepped.call works (not_idle s.phase busy) in
        subst (λ q. IsCall facts device_step (stepped_in q) (parts h s failure_told) (parts h new failure_told)) (sym is)
        (call_goes_through facts h s new _ _ fits works busy its_call rest current works' after
        (counts_on facts s new p goes_through refl refl works stepped (not_idle s.phase busy) gone) refl (steps (not_idle s.phase busy)))
    by_kind (inr (inr (busy, other))) =
        let on = goes_on_in s.phase busy other in
        let kept = kept_current s.phase s new.disk other in
        let busy' : is_idle new.phase ≡ false = ap (λ t. is_idle t.phase) gone ∙ going_busy s.phase s new.disk busy other in
        let current : new.current ≡ s.current = ap (λ t. t.current) gone ∙ kept.0 in
        let next : new.next ≡ s.next = ap (λ t. t.next) gone ∙ kept.1 in
        let works' : new.failed ≡ false = ap (λ t. t.failed) gone ∙ kept_working s.phase s new.disk ∙ works in
        let its_call = stepped.call works (not_idle s.phase busy) in
        rw on (call_goes_on facts h s new _ _ fits works busy its_call busy' current next works' after
        (counts_on facts s new p goes_on refl refl works stepped (not_idle s.phase busy) gone) refl (steps (not_idle s.phase busy)))

-- a device step that is refused
pub step_refused : {D : Type 0} {failure_told : Bool} (facts : Ghosts D) (h : ReplicaHeld) (s new : StoreHeld D) (e : StoreError) → (facts.tells s.disk → IsLawful facts s.disk)
    → Fits facts (parts h s failure_told) → Fits facts (parts h new failure_told) → IsStoreStep facts s (Err e) new
    → IsCall facts device_step (refused (number_of e)) (parts h s failure_told) (parts h new failure_told)
step_refused {failure_told = failure_told} facts h s new e lawful fits after stepped = by_test s.failed refl
  where
    by_test : (t : Bool) → s.failed ≡ t → IsCall facts device_step (refused (number_of e)) (parts h s failure_told) (parts h new failure_told)
    by_test true failed =
        let both = stepped.stopped failed in
        rw (same_error (Err e) e Failed refl both.0, both.1) (
        quiet_same facts device_step (refused 44) h s lawful fits (inl (failed, refl, refl)) refl refl refl (inl (refl, refl)))
    by_test false works =
        let some : s.phase ≢ Idle = λ is. never_both (Err e) e Idle refl (stepped.idle works is).0 in
        let gone_so = stepped.failed works in
        let busy = is_busy s.phase some in
        let busy' : is_idle new.phase ≡ false = ap (λ t. is_idle t.phase) gone_so ∙ failed_busy s.phase ∙ busy in
        let current : new.current ≡ s.current = ap (λ t. t.current) gone_so in
        let next : new.next ≡ s.next = ap (λ t. t.next) gone_so in
        let failed : new.failed ≡ true = ap (λ t. t.failed) gone_so in
        let its_call = stepped.call works some in
        let error = its_call.refused in
        call_fails facts h s new _ _ (number_of e) fits works busy its_call busy' current next failed (rw error (device_number s.phase)) after
        (counts_failed facts s new e works failed stepped some error gone_so) refl (record {
          counted = λ told. counted_by facts s new (Err e) (its_call.call told);
          number = ap number_of error;
          next = gone_so;
          does = λ told. subst (λ q. Does {T = Phase} facts (Err q) (call_in s.phase) s new.disk) error (stepped.does works told);
        })
