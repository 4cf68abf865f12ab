-- What a call of a shared hub says of the moment at which it had the lock.
use Rattle.std.specs.Prelude.{◌≡◌, ℕ, true, None, Option, Result}
use Rattle.disk_trait.specs.declared.facts.DiskFacts.{Ghosts}
use Rattle.fixed_numbers.specs.declared.refusals.TheConstants.{MEMORY}
use Rattle.group_commit.specs.declared.error.StoreError.{StoreError}
use Rattle.op_model.specs.Actions.{Asked}
use Rattle.op_model.specs.Machine.{Event, Answer, Step, Ticket, edit, known_ticket, ticket, refused}
use Rattle.hub_parts.specs.Locked.{IsLocked, state_of, LockedHeld}
use Rattle.hub_parts.specs.Fitting.{FitTogether, side_of}
use Rattle.hub_parts.specs.Flusher.{FlusherHeld}
use Rattle.hub_parts.specs.Meeting.{Meets}
use Rattle.hub_parts.specs.declared.met.Met.{Met}
use Rattle.hub_parts.specs.Asked.{asked_now}
use Rattle.placed_edits.specs.Placed.{are_placed, Placed}
use Rattle.replica_core.specs.RefusedAt.{place_told}
use Rattle.shared_hub.specs.Books.{PassHeld, ends_of}
use Rattle.shared_hub.specs.Going.{Goes}
use Rattle.shared_hub.specs.Moments.{with_moment}
use Rattle.shared_hub.specs.Refusal.{number_of, told_at}
use Rattle.shared_hub.specs.declared.refusal.SharedRefusal.{SharedRefusal}

-- At some moment the locked part was so: its list is causally closed, replaying the kept steps gives list and settled number, and
-- what is acknowledged and told is settled.
pub record Moment (P : LockedHeld → Type 0) : Type 0 where
  pub locked : LockedHeld
  pub sound : IsLocked locked
  pub holds : P locked

-- at some moment it was so, and the entries of the pass were just the kept steps of its number
pub record MomentOf (pass : PassHeld) (P : LockedHeld → Type 0) : Type 0 where
  pub locked : LockedHeld
  pub sound : IsLocked locked
  pub mine : pass.entries ≡ ends_of pass.number locked.replica.steps
  pub holds : P locked

-- from this locked part to that one there is just this step of the machine
pub record Makes (before after : LockedHeld) (event : Event) (answer : Answer) : Type 0 where
  pub sound_before : IsLocked before
  pub sound : IsLocked after
  pub step : Step (state_of before) event answer (state_of after)

-- and before and behind it the entries of the pass are just the kept steps of its number
pub record MakesFor (before after : LockedHeld) (old new : PassHeld) (event : Event) (answer : Answer) : Type 0 where
  pub makes : Makes before after event answer
  pub mine_before : old.entries ≡ ends_of old.number before.replica.steps
  pub mine : new.entries ≡ ends_of new.number after.replica.steps

-- while the lock was held once, the locked part made just this step, and before and behind it the entries of the pass were just the kept
-- steps of its number
pub record HappensTo (old new : PassHeld) (event : Event) (answer : Answer) : Type 0 where
  pub before : LockedHeld
  pub after : LockedHeld
  pub makes : MakesFor before after old new event answer

-- so it was, and the moment behind the step is the newest of the pass, which is else as that call left it
pub record EntersTo (old left new : PassHeld) (event : Event) (answer : Answer) : Type 0 where
  pub before : LockedHeld
  pub after : LockedHeld
  pub makes : MakesFor before after old new event answer
  pub entered : new ≡ with_moment left after

-- while the lock was held once, the locked part refused the edit with this number, and for this one of several changes, if it was for one
pub record RefusesEdit (pass : PassHeld) (e : Asked) (n : ℕ) (place : Option ℕ) : Type 0 where
  pub before : LockedHeld
  pub after : LockedHeld
  pub makes : MakesFor before after pass pass (edit pass.number e) (refused n)
  pub told : place ≡ place_told before.replica e n

-- the action by numbers that an edit asks for, if this stands under the lock
abbrev pub asked_then : Placed → LockedHeld → Asked
asked_then placed l = asked_now l.replica placed

-- while the lock was held once, `asks` gave an action by what stood there, and just that was made and entered, with this ticket
pub record EntersAsked (asks : LockedHeld → Asked) (old left new : PassHeld) (t : Ticket) : Type 0 where
  pub asked : Asked
  pub entered : EntersTo old left new (edit old.number asked) (ticket t)
  pub of_then : asked ≡ asks entered.before

-- while the lock was held once, the action that `asks` gave by what stood there was refused
pub record RefusesAsked (asks : LockedHeld → Asked) (pass : PassHeld) (n : ℕ) (place : Option ℕ) : Type 0 where
  pub asked : Asked
  pub refuses : RefusesEdit pass asked n place
  pub of_then : asked ≡ asks refuses.before

-- there was no memory for the numbers of an edit's places; it wasn't made before, under its token
pub record IsWithoutMemory (pass : PassHeld) (placed : Placed) (e : SharedRefusal) : Type 0 where
  pub has_places : are_placed placed.spots ≡ true
  pub new : MomentOf pass (λ l. known_ticket l.replica placed.asked ≡ None)
  pub number : number_of e ≡ MEMORY
  pub whole : told_at e ≡ None

-- A meeting of the locked part and the flusher that fits it. Both are sound before and after it and fit together, and the flusher has gone
-- on.
pub record MeetsSound {D : Type 0} (facts : Ghosts D) (before : LockedHeld) (old : FlusherHeld D) (result : Result Met StoreError)
    (after : LockedHeld) (new : FlusherHeld D) : Type 0 where
  pub sound_before : IsLocked before
  pub sound : IsLocked after
  pub meets : Meets facts before old result after new
  pub goes : Goes facts old new
  pub fits_before : FitTogether before (side_of old)
  pub fits : FitTogether after (side_of new)

-- while the lock was held once, the flusher met the locked part, with this answer
pub record MeetsOnce {D : Type 0} (facts : Ghosts D) (old : FlusherHeld D) (result : Result Met StoreError) (new : FlusherHeld D) : Type 0 where
  pub before : LockedHeld
  pub after : LockedHeld
  pub meets : MeetsSound facts before old result after new
