-- What meetings and device calls make of a flusher.
use Rattle.std.proofs.Common.{◌≡◌, ◌≢◌, ◌⊎◌, ℕ, List, Bool, true, false, refl, sym, ap, ◌∙◌, arith, inl, inr, subst, Ok, Err, append_assoc}
use Rattle.std.proofs.lemmas.List.{append-nil}
use Rattle.std.specs.Prelude.{◌↔◌, ◌≤◌, [], ◌++◌, Result}
use Rattle.disk_trait.specs.Calls.{IsLawful, LeavesOnly}
use Rattle.disk_trait.specs.declared.facts.DiskFacts.{Ghosts}
use Rattle.disk_trait.proofs.Moments.{moments_of_none, moments_then}
use Rattle.root_slots.specs.Root.{count_of, replica_of}
use Rattle.group_commit.specs.Begin.{is_idle}
use Rattle.group_commit.specs.Held.{StoreHeld}
use Rattle.group_commit.specs.Step.{IsLeftAround}
use Rattle.group_commit.specs.declared.error.StoreError.{StoreError}
use Rattle.group_commit.specs.declared.phase.Phase.{Phase}
use Rattle.group_commit.specs.declared.phase.Phase.TheVariants.{Idle, Sync3}
use Rattle.hub_parts.proofs.FlusherSteps.{Outcome, flusher_stepped, outcome_of}
use Rattle.hub_parts.proofs.PhaseLemmas.{kind_of, not_idle}
use Rattle.hub_parts.proofs.WiderMoments.{moments_of}
use Rattle.hub_parts.specs.Flusher.{IsFlusher, IsStoreStep, IsUnderWay, FlusherHeld}
use Rattle.hub_parts.specs.Locked.{LockedHeld}
use Rattle.hub_parts.specs.Meeting.{LeavesBoth, pending}
use Rattle.hub_parts.specs.declared.met.Met.{Met}
use Rattle.hub_parts.specs.declared.met.Met.TheVariants.{Begun, Settled, Nothing}
use Rattle.op_model.specs.declared.op.Op.{Op}
use Rattle.shared_hub.specs.Going.{Extends, Goes, HoldsFront}
use Rattle.shared_hub.proofs.FrontLemmas.{holds_on, left_holds}

-- the files that hold a beginning of a list, with all that a flusher's live root has
abbrev Holds : {D : Type 0} → FlusherHeld D → List Op → List ℕ → Type 0
Holds f list = HoldsFront (replica_of f.store.current.body) (count_of f.store.current.body) list

-- what a crash leaves while a flusher rests
rests : {D : Type 0} (facts : Ghosts D) (f : FlusherHeld D) (longer : List Op) → ((disk : D) → facts.tells disk → IsLawful facts disk)
    → IsFlusher facts f → Extends f.list longer → facts.tells f.store.disk
    → LeavesOnly facts f.store.disk f.store.disk (Holds f longer)
rests facts f longer lawful kept more told =
    moments_of_none facts (Holds f longer) f.store.disk (lawful f.store.disk told) (λ file survives.
    holds_on (replica_of f.store.current.body) (replica_of f.store.current.body) (count_of f.store.current.body) (count_of f.store.current.body)
    f.list longer file refl (omega arith) more (left_holds facts f file kept (kept.left told file survives)))

-- a flusher that is as it was
pub goes_nowhere : {D : Type 0} (facts : Ghosts D) (f new : FlusherHeld D) → ((disk : D) → facts.tells disk → IsLawful facts disk)
    → IsFlusher facts f → new ≡ f → Goes facts f new
goes_nowhere facts f new lawful kept same =
    rw same (record {
      list = ([], sym (append-nil f.list));
      live = grind arith;
      owner = refl;
      tells = ((λ t. t), (λ t. t));
      moments = rests facts f f.list lawful kept ([], sym (append-nil f.list));
    })

-- one thing after another
pub goes_behind : {D : Type 0} (facts : Ghosts D) (f g h : FlusherHeld D) → Goes facts f g → Goes facts g h → Goes facts f h
goes_behind facts f g h first second =
    let a = first.live in
    let b = second.live in
    record {
      list = (
        first.list.0 ++ second.list.0,
        second.list.1 ∙ ap (λ l. l ++ second.list.0) first.list.1 ∙ append_assoc f.list first.list.0 second.list.0,
      );
      live = omega (arith, a, b);
      owner = second.owner ∙ first.owner;
      tells = ((λ t. first.tells.0 (second.tells.0 t)), (λ t. second.tells.1 (first.tells.1 t)));
      moments = λ told. moments_then facts (Holds f h.list) f.store.disk g.store.disk h.store.disk
          (moments_of facts f.store.disk g.store.disk (Holds f g.list) (Holds f h.list) (λ file.
          holds_on (replica_of f.store.current.body) (replica_of f.store.current.body) (count_of f.store.current.body)
          (count_of f.store.current.body) g.list h.list file refl (omega arith) second.list) (first.moments told))
          (moments_of facts g.store.disk h.store.disk (Holds g h.list) (Holds f h.list) (λ file.
          holds_on (replica_of f.store.current.body) (replica_of g.store.current.body) (count_of f.store.current.body)
          (count_of g.store.current.body) h.list h.list file first.owner a ([], sym (append-nil h.list)))
          (second.moments (first.tells.1 told)));
    }

-- a step of a store leaves whether the disk tells
step_tells : {D : Type 0} (facts : Ghosts D) (s new : StoreHeld D) (result : Result Phase StoreError) → IsStoreStep facts s result new
    → facts.tells new.disk ↔ facts.tells s.disk
step_tells {D} facts s new result step = by_test s.failed refl
  where
    same : new ≡ s → facts.tells new.disk ↔ facts.tells s.disk
    same is = rw is ((λ t. t), (λ t. t))

    by_kind : s.failed ≡ false → (s.phase ≡ Idle) ⊎ ((s.phase ≡ Sync3) ⊎ ((is_idle s.phase ≡ false) × (s.phase ≢ Sync3)))
        → facts.tells new.disk ↔ facts.tells s.disk
    by_kind works (inl idle) = same (step.idle works idle).1
    by_kind works (inr (inl last)) = (step.call works (λ idle. absurd (cc))).tells
    by_kind works (inr (inr (busy, other))) = (step.call works (not_idle s.phase busy)).tells

    by_test : (t : Bool) → s.failed ≡ t → facts.tells new.disk ↔ facts.tells s.disk
    by_test true failed = same (step.stopped failed).1
    by_test false works = by_kind works (kind_of s.phase)

-- and the live root has no fewer operations
outcome_live : {D : Type 0} (facts : Ghosts D) (f : FlusherHeld D) (new : StoreHeld D) → IsFlusher facts f → Outcome facts f.store new
    → count_of f.store.current.body ≤ count_of new.current.body
outcome_live facts f new kept (inl same) = rw same (grind arith)
outcome_live facts f new kept (inr (inl goes)) = rw goes.current (grind arith)
outcome_live facts f new kept (inr (inr through)) =
    let way : IsUnderWay f = rw through.was_busy at kept.commit in
    let within = kept.live.within in
    let all = way.all in
    rw through.current (omega (arith, within, all))

-- and is the same replica's
outcome_owner : {D : Type 0} (facts : Ghosts D) (f : FlusherHeld D) (new : StoreHeld D) → IsFlusher facts f → Outcome facts f.store new
    → replica_of new.current.body ≡ replica_of f.store.current.body
outcome_owner facts f new kept (inl same) = rw same refl
outcome_owner facts f new kept (inr (inl goes)) = rw goes.current refl
outcome_owner facts f new kept (inr (inr through)) =
    let way : IsUnderWay f = rw through.was_busy at kept.commit in
    rw through.current way.owner

-- what a crash leaves at a moment of a step has a beginning of the list, with all that the live root had before
step_holds : {D : Type 0} (facts : Ghosts D) (f : FlusherHeld D) (new : StoreHeld D) (file : List ℕ) → IsFlusher facts f → Outcome facts f.store new
    → IsLeftAround f.store new file → Holds f f.list file
step_holds facts f new file kept outcome (inl before) = left_holds facts f file kept before
step_holds facts f new file kept outcome (inr after) =
    holds_on (replica_of f.store.current.body) (replica_of new.current.body) (count_of f.store.current.body) (count_of new.current.body)
    f.list f.list file (outcome_owner facts f new kept outcome) (outcome_live facts f new kept outcome) ([], sym (append-nil f.list))
    (left_holds facts (record { store = new; list = f.list; due = f.due }) file
    (flusher_stepped facts f.store new f.list f.due kept outcome) after)

-- what a crash leaves at the moments of a step
step_moments : {D : Type 0} (facts : Ghosts D) (f : FlusherHeld D) (new : StoreHeld D) (result : Result Phase StoreError)
    → ((disk : D) → facts.tells disk → IsLawful facts disk) → IsFlusher facts f → IsStoreStep facts f.store result new
    → facts.tells f.store.disk → LeavesOnly facts f.store.disk new.disk (Holds f f.list)
step_moments {D} facts f new result lawful kept step told = by_test f.store.failed refl
  where
    quiet : new ≡ f.store → LeavesOnly facts f.store.disk new.disk (Holds f f.list)
    quiet is = rw is (rests facts f f.list lawful kept ([], sym (append-nil f.list)) told)

    called : f.store.failed ≡ false → f.store.phase ≢ Idle → LeavesOnly facts f.store.disk new.disk (Holds f f.list)
    called works some = moments_of facts f.store.disk new.disk (IsLeftAround f.store new) (Holds f f.list)
        (λ file. step_holds facts f new file kept (outcome_of facts f.store new result step)) ((step.call works some).moments told)

    by_kind : f.store.failed ≡ false → (f.store.phase ≡ Idle) ⊎ ((f.store.phase ≡ Sync3) ⊎ ((is_idle f.store.phase ≡ false) × (f.store.phase ≢ Sync3)))
        → LeavesOnly facts f.store.disk new.disk (Holds f f.list)
    by_kind works (inl idle) = quiet (step.idle works idle).1
    by_kind works (inr (inl last)) = called works (λ idle. absurd (cc))
    by_kind works (inr (inr (busy, other))) = called works (not_idle f.store.phase busy)

    by_test : (t : Bool) → f.store.failed ≡ t → LeavesOnly facts f.store.disk new.disk (Holds f f.list)
    by_test true failed = quiet (step.stopped failed).1
    by_test false works = by_kind works (kind_of f.store.phase)

-- what a device call makes of a flusher
pub device_goes : {D : Type 0} (facts : Ghosts D) (f new : FlusherHeld D) (result : Result Phase StoreError)
    → ((disk : D) → facts.tells disk → IsLawful facts disk) → IsFlusher facts f
    → IsStoreStep facts f.store result new.store → new ≡ record f { store = new.store } → Goes facts f new
device_goes facts f new result lawful kept step same =
    let outcome = outcome_of facts f.store new.store result step in
    record {
      list = ([], ap (λ h. h.list) same ∙ sym (append-nil f.list));
      live = outcome_live facts f new.store kept outcome;
      owner = outcome_owner facts f new.store kept outcome;
      tells = step_tells facts f.store new.store result step;
      moments = λ told. subst (λ list. LeavesOnly facts f.store.disk new.store.disk (Holds f list)) (sym (ap (λ h. h.list) same))
          (step_moments facts f new.store result lawful kept step told);
    }

-- what a meeting makes of it
pub meeting_goes : {D : Type 0} (facts : Ghosts D) (l : LockedHeld) (f : FlusherHeld D) (result : Result Met StoreError) (l' : LockedHeld)
    (f' : FlusherHeld D) → ((disk : D) → facts.tells disk → IsLawful facts disk) → IsFlusher facts f → LeavesBoth facts l f result l' f'
    → Goes facts f f'
meeting_goes facts l f (Ok (Begun n)) l' f' lawful kept leaves =
    record {
      list = (pending l, leaves.list);
      live = rw leaves.begins.begins.current (grind arith);
      owner = rw leaves.begins.begins.current refl;
      tells = rw leaves.begins.begins.disk ((λ t. t), (λ t. t));
      moments = rw leaves.begins.begins.disk (rests facts f f'.list lawful kept (pending l, leaves.list));
    }
meeting_goes facts l f (Ok (Settled n)) l' f' lawful kept leaves =
    rw leaves.flusher (record {
      list = ([], sym (append-nil f.list));
      live = grind arith;
      owner = refl;
      tells = ((λ t. t), (λ t. t));
      moments = rests facts f f.list lawful kept ([], sym (append-nil f.list));
    })
meeting_goes facts l f (Ok Nothing) l' f' lawful kept leaves = goes_nowhere facts f f' lawful kept leaves.1
meeting_goes facts l f (Err e) l' f' lawful kept leaves = goes_nowhere facts f f' lawful kept leaves.flusher
