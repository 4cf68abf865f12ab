-- What a call of a shared hub promised at a moment, and what is so of that later.
use Rattle.std.specs.Prelude.{◌≡◌, ℕ, ◌+◌, ◌≤◌, true, false, ◌++◌, length, take, All, Some}
use Rattle.op_model.specs.Actions.{Asked, made_by_action}
use Rattle.op_model.specs.Machine.{Event, Answer, Ticket, known_ticket}
use Rattle.hub_parts.specs.Fitting.{FitTogether, Side}
use Rattle.hub_parts.specs.Locked.{IsLocked, LockedHeld}
use Rattle.shared_hub.specs.Books.{PassHeld}
use Rattle.shared_hub.specs.Moments.{IsPastOf}
use Rattle.shared_hub.specs.Shared.{EntersTo}

-- The first n operations of the list are settled. Whatever flusher the locked part fits, each beginning of the flusher's list that has
-- all operations of the live root begins with them.
pub record IsSafe (l : LockedHeld) (n : ℕ) : Type 0 where
  pub settled : n ≤ l.replica.settled
  pub fronts : (side : Side) → FitTogether l side → (k : ℕ) → side.committed ≤ k → take n (take k side.list) ≡ take n l.replica.list

-- the operations of an action end here in the list: they are those that it makes after all before them
pub record IsInList (l : LockedHeld) (e : Asked) (end : ℕ) : Type 0 where
  pub first : ℕ
  pub made : take end l.replica.list ≡ take first l.replica.list ++ made_by_action (take first l.replica.list) l.replica.replica e
  pub long : end ≡ first + length (made_by_action (take first l.replica.list) l.replica.replica e)

-- a moment in the past at which the edit had been made under its token, with this ticket
pub record WasMade (l : LockedHeld) (e : Asked) (t : Ticket) : Type 0 where
  pub moment : LockedHeld
  pub past : IsPastOf l moment
  pub known : known_ticket moment.replica e ≡ Some t

-- the ticket of an edit: that of a new one, whose operations are in the list, or the one that it had before
pub record IsTicketed (l : LockedHeld) (e : Asked) (t : Ticket) : Type 0 where
  pub new : t.known ≡ false → IsInList l e t.end
  pub known : t.known ≡ true → WasMade l e t

-- these are what is told of some settled operations
pub record IsTold {A : Type 0} (l : LockedHeld) (told : ℕ → A) (it : A) : Type 0 where
  pub count : ℕ
  pub safe : IsSafe l count
  pub is : it ≡ told count

-- a pass entered this answer of a call, and all its moments of then are in the past of a locked part
pub record WasAnswered (l : LockedHeld) (event : Event) (answer : Answer) : Type 0 where
  pub old : PassHeld
  pub left : PassHeld
  pub new : PassHeld
  pub entered : EntersTo old left new event answer
  pub past : All (IsPastOf l) new.moments
  pub sound : IsLocked l
