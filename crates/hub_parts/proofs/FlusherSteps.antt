-- One device call, with what it makes of a flusher.
use Rattle.std.proofs.Common.{◌≡◌, ◌≢◌, ℕ, Bool, true, false, List, refl, ap, ◌∙◌, inl, inr, ◌⊎◌, Result, Ok, Err}
use Rattle.disk_trait.specs.declared.facts.DiskFacts.{Ghosts}
use Rattle.op_model.specs.declared.op.Op.{Op}
use Rattle.group_commit.specs.Begin.{is_idle}
use Rattle.group_commit.specs.Commit.{IsLeft}
use Rattle.group_commit.specs.Held.{gone_on, has_failed, StoreHeld}
use Rattle.group_commit.specs.declared.error.StoreError.{StoreError}
use Rattle.group_commit.specs.declared.phase.Phase.{Phase}
use Rattle.group_commit.specs.declared.phase.Phase.TheVariants.{Idle, Sync3}
use Rattle.hub_parts.specs.Flusher.{IsFlusher, IsUnderWay, IsStoreStep}
use Rattle.hub_parts.proofs.PhaseLemmas.{going_busy, kind_of, failed_busy, kept_current, not_idle, is_busy}

-- what each file has that a crash now leaves
abbrev pub CrashLeaves : {D : Type 0} → Ghosts D → StoreHeld D → Type 0
CrashLeaves facts s =
    facts.tells s.disk → (file : List ℕ) → facts.survives s.disk file → IsLeft s.phase s.current s.next file

-- the commit is still under way, with the same roots
pub record Goes {D : Type 0} (facts : Ghosts D) (s new : StoreHeld D) : Type 0 where
  pub was_busy : is_idle s.phase ≡ false
  pub busy : is_idle new.phase ≡ false
  pub current : new.current ≡ s.current
  pub next : new.next ≡ s.next
  pub left : CrashLeaves facts new

-- the commit is through, and its root is the live one
pub record GoesThrough {D : Type 0} (facts : Ghosts D) (s new : StoreHeld D) : Type 0 where
  pub was_busy : is_idle s.phase ≡ false
  pub rest : is_idle new.phase ≡ true
  pub current : new.current ≡ s.next
  pub left : CrashLeaves facts new

-- what a step makes of the commit: nothing, or one of these
abbrev pub Outcome : {D : Type 0} → Ghosts D → StoreHeld D → StoreHeld D → Type 0
Outcome facts s new = (new ≡ s) ⊎ (Goes facts s new ⊎ GoesThrough facts s new)

-- a device call that succeeds
call_made : {D : Type 0} (facts : Ghosts D) (s new : StoreHeld D) → is_idle s.phase ≡ false → new ≡ gone_on s.phase s new.disk → CrashLeaves facts new
    → Outcome facts s new
call_made facts s new busy gone left = by_kind (kind_of s.phase)
  where
    by_kind : (s.phase ≡ Idle) ⊎ ((s.phase ≡ Sync3) ⊎ ((is_idle s.phase ≡ false) × (s.phase ≢ Sync3))) → Outcome facts s new
    by_kind (inl is) = absurd (not_idle s.phase busy is)
    by_kind (inr (inl is)) =
        let done : new ≡ gone_on Sync3 s new.disk = gone ∙ ap (λ q. gone_on q s new.disk) is in
        inr (inr (record { was_busy = busy; rest = ap (λ t. is_idle t.phase) done; current = ap (λ t. t.current) done; left = left }))
    by_kind (inr (inr (some, other))) =
        let kept = kept_current s.phase s new.disk other in
        inr (inl (record {
          was_busy = busy;
          busy = ap (λ t. is_idle t.phase) gone ∙ going_busy s.phase s new.disk busy other;
          current = ap (λ t. t.current) gone ∙ kept.0;
          next = ap (λ t. t.next) gone ∙ kept.1;
          left = left;
        }))

-- a device call that fails
call_failed : {D : Type 0} (facts : Ghosts D) (s new : StoreHeld D) → is_idle s.phase ≡ false → new ≡ has_failed s new.disk → CrashLeaves facts new
    → Outcome facts s new
call_failed facts s new busy gone left =
    inr (inl (record {
      was_busy = busy;
      busy = ap (λ t. is_idle t.phase) gone ∙ failed_busy s.phase ∙ busy;
      current = ap (λ t. t.current) gone;
      next = ap (λ t. t.next) gone;
      left = left;
    }))

-- what a step of a store makes of its commit
pub outcome_of : {D : Type 0} (facts : Ghosts D) (s new : StoreHeld D) (result : Result Phase StoreError) → IsStoreStep facts s result new
    → Outcome facts s new
outcome_of {D} facts s new result step = by_test s.failed refl
  where
    called : (result : Result Phase StoreError) → s.failed ≡ false → s.phase ≢ Idle → IsStoreStep facts s result new → Outcome facts s new
    called (Ok phase) works some step = call_made facts s new (is_busy s.phase some) (step.went_on works) (step.call works some).left
    called (Err error) works some step = call_failed facts s new (is_busy s.phase some) (step.failed works) (step.call works some).left

    by_kind : s.failed ≡ false → (s.phase ≡ Idle) ⊎ ((s.phase ≡ Sync3) ⊎ ((is_idle s.phase ≡ false) × (s.phase ≢ Sync3))) → Outcome facts s new
    by_kind works (inl is) = inl (step.idle works is).1
    by_kind works (inr (inl is)) = called result works (λ idle. absurd (cc)) step
    by_kind works (inr (inr (some, other))) = called result works (not_idle s.phase some) step

    by_test : (t : Bool) → s.failed ≡ t → Outcome facts s new
    by_test true failed = inl (step.stopped failed).1
    by_test false works = by_kind works (kind_of s.phase)

-- a flusher whose commit is still under way
flusher_goes : {D : Type 0} (facts : Ghosts D) (s new : StoreHeld D) (list : List Op) (due : Bool) → IsFlusher facts (record { store = s; list = list; due = due })
    → Goes facts s new → IsFlusher facts (record { store = new; list = list; due = due })
flusher_goes facts s new list due kept goes =
    let way : IsUnderWay (record { store = s; list = list; due = due }) = rw goes.was_busy at kept.commit in
    record {
      live = rw goes.current kept.live;
      commit = rw goes.busy (record {
        due = way.due;
        all = rw goes.next way.all;
        front = rw goes.next way.front;
        owner = rw (goes.next, goes.current) way.owner;
        version = rw (goes.next, goes.current) way.version;
      });
      left = goes.left;
    }

-- one whose commit is through
flusher_through : {D : Type 0} (facts : Ghosts D) (s new : StoreHeld D) (list : List Op) (due : Bool) → IsFlusher facts (record { store = s; list = list; due = due })
    → GoesThrough facts s new → IsFlusher facts (record { store = new; list = list; due = due })
flusher_through facts s new list due kept through =
    let way : IsUnderWay (record { store = s; list = list; due = due }) = rw through.was_busy at kept.commit in
    record {
      live = rw through.current way.front;
      commit = rw through.rest (record {
        all = rw through.current way.all;
      });
      left = through.left;
    }

-- a step keeps what every flusher keeps
pub flusher_stepped : {D : Type 0} (facts : Ghosts D) (s new : StoreHeld D) (list : List Op) (due : Bool)
    → IsFlusher facts (record { store = s; list = list; due = due }) → Outcome facts s new
    → IsFlusher facts (record { store = new; list = list; due = due })
flusher_stepped facts s new list due kept (inl same) = rw same kept
flusher_stepped facts s new list due kept (inr (inl goes)) = flusher_goes facts s new list due kept goes
flusher_stepped facts s new list due kept (inr (inr through)) = flusher_through facts s new list due kept through
