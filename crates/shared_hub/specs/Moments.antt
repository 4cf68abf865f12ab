-- The moments that passes have, beside the locked part of now.
use Rattle.std.specs.Prelude.{◌≡◌, ◌≤◌, ℕ, List, ◌∷◌, ◌++◌, Bool, if◌then◌else◌, All, Contains, Some, slice_get, slice_set}
use Rattle.op_model.specs.Held.{ReplicaHeld}
use Rattle.op_model.specs.Replay.{Kept}
use Rattle.hub_parts.specs.Fitting.{FitTogether, Side}
use Rattle.hub_parts.specs.Locked.{IsLocked, LockedHeld}
use Rattle.shared_hub.specs.Books.{BooksFit, BooksHeld, PassHeld}
use Rattle.shared_hub.specs.Going.{Extends}

-- the later steps, newest first, are the earlier ones and others after them
abbrev pub GoesOn : List Kept → List Kept → Type 0
GoesOn steps later = (more : List Kept) × (later ≡ more ++ steps)

-- what a replica holds later: it is the same one, opened with the same list, with all operations and steps that it had, and none of its
-- numbers is smaller
pub record Follows (earlier later : ReplicaHeld) : Type 0 where
  pub replica : later.replica ≡ earlier.replica
  pub opened : later.opened ≡ earlier.opened
  pub list : Extends earlier.list later.list
  pub steps : GoesOn earlier.steps later.steps
  pub settled : earlier.settled ≤ later.settled
  pub acked : earlier.acked ≤ later.acked
  pub told : earlier.told ≤ later.told

-- this moment is in a locked part's past: it is sound, and what the replica holds now follows what it held then
pub record IsPastOf (now moment : LockedHeld) : Type 0 where
  pub sound : IsLocked moment
  pub follows : Follows moment.replica now.replica

-- each moment in each book is in the locked part's past
abbrev pub MomentsFit : LockedHeld → List (List LockedHeld) → Type 0
MomentsFit l books = (n : ℕ) (moments : List LockedHeld) → slice_get books n ≡ Some moments → All (IsPastOf l) moments

-- whatever flusher the earlier locked part fits, the later one fits it too
abbrev pub StaysFit : LockedHeld → LockedHeld → Type 0
StaysFit earlier later = (side : Side) → FitTogether earlier side → FitTogether later side

-- as many operations were settled at this moment as after one of these meetings
pub record WasSettledAt (meetings : List LockedHeld) (moment : LockedHeld) : Type 0 where
  pub meeting : LockedHeld
  pub among : Contains meetings meeting
  pub settled : moment.replica.settled ≡ meeting.replica.settled

-- Book 0 is the flusher's: its moments are those after the meetings with it. Nothing was settled since the newest one, the flusher that
-- fitted then still does, and at each moment in a book as many operations were settled as after a meeting.
pub record HasMet (l : LockedHeld) (books : List (List LockedHeld)) : Type 0 where
  pub newest : LockedHeld
  pub older : List LockedHeld
  pub there : slice_get books 0 ≡ Some (newest ∷ older)
  pub settled : l.replica.settled ≡ newest.replica.settled
  pub fits : StaysFit newest l
  pub known : (n : ℕ) (moments : List LockedHeld) → slice_get books n ≡ Some moments → All (WasSettledAt (newest ∷ older)) moments

-- these are the books of a locked part: each has an entry for each kept step of its number, its moments are in the past, and book 0 has
-- those of the flusher's meetings
pub record AreBooksOf (l : LockedHeld) (books : BooksHeld) : Type 0 where
  pub entries : BooksFit l.replica.steps books.entries
  pub moments : MomentsFit l books.moments
  pub met : HasMet l books.moments

-- the books with these moments in the book of a number
abbrev pub with_book : BooksHeld → ℕ → List LockedHeld → BooksHeld
with_book books n moments = record books { moments = slice_set books.moments n moments }

-- if something was answered
abbrev pub with_book_if : Bool → BooksHeld → ℕ → List LockedHeld → BooksHeld
with_book_if answered books n moments = if answered then with_book books n moments else books

-- the pass with one moment more
abbrev pub with_moment : PassHeld → LockedHeld → PassHeld
with_moment p l = record p { moments = l ∷ p.moments }

-- with one more if something was answered
abbrev pub with_moment_if : Bool → PassHeld → LockedHeld → PassHeld
with_moment_if answered p l = if answered then with_moment p l else p
