-- One device call, with what it makes of two parts that fit.
use Rattle.std.proofs.Common.{◌≡◌, ◌≤◌, Bool, List, length, take, ap, ◌∙◌, arith, inl, inr}
use Rattle.std.proofs.lemmas.List.{length-take-le}
use Rattle.disk_trait.specs.declared.facts.DiskFacts.{Ghosts}
use Rattle.op_model.specs.declared.op.Op.{Op}
use Rattle.root_slots.specs.Root.{count_of}
use Rattle.group_commit.specs.Held.{StoreHeld}
use Rattle.hub_parts.specs.Flusher.{IsFlusher, IsUnderWay}
use Rattle.hub_parts.specs.Locked.{IsLocked, LockedHeld}
use Rattle.hub_parts.specs.Fitting.{FitTogether, side_of}
use Rattle.hub_parts.proofs.FlusherSteps.{GoesThrough, Outcome}

-- the flusher's list has as many operations as were taken
pub front_length : (l : LockedHeld) (list : List Op) → l.begun ≤ length l.replica.list → list ≡ take l.begun l.replica.list → length list ≡ l.begun
front_length l list within front = ap length front ∙ length-take-le l.begun l.replica.list within

-- two parts that fit, where the commit is through
meet_through : {D : Type 0} (facts : Ghosts D) (s new : StoreHeld D) (list : List Op) (due : Bool) (l : LockedHeld)
    → IsFlusher facts (record { store = s; list = list; due = due }) → GoesThrough facts s new → IsLocked l
    → FitTogether l (side_of (record { store = s; list = list; due = due })) → FitTogether l (side_of (record { store = new; list = list; due = due }))
meet_through facts s new list due l kept through locked meet =
    let way : IsUnderWay (record { store = s; list = list; due = due }) = rw through.was_busy at kept.commit in
    let all : count_of s.next.body ≡ length list = way.all in
    let long = front_length l list locked.keeps.within meet.front in
    let settled = locked.keeps.settled in
    record {
      owner = rw through.current (way.owner ∙ meet.owner);
      both = meet.both;
      front = meet.front;
      settled = λ none. let never = rw (way.due, through.rest) at none in absurd (cc);
      through = λ is. rw through.current (omega (arith, all, long, settled));
    }

-- a step keeps that two parts fit
pub meet_stepped : {D : Type 0} (facts : Ghosts D) (s new : StoreHeld D) (list : List Op) (due : Bool)
    → IsFlusher facts (record { store = s; list = list; due = due }) → Outcome facts s new → (l : LockedHeld) → IsLocked l
    → FitTogether l (side_of (record { store = s; list = list; due = due })) → FitTogether l (side_of (record { store = new; list = list; due = due }))
meet_stepped facts s new list due kept (inl same) l locked meet = rw same meet
meet_stepped facts s new list due kept (inr (inl goes)) l locked meet = rw (goes.current, goes.busy, ← goes.was_busy) meet
meet_stepped facts s new list due kept (inr (inr through)) l locked meet = meet_through facts s new list due l kept through locked meet
