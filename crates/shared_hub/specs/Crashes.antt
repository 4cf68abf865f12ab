-- What a crash leaves of the file that a shared hub is over.
use Rattle.std.specs.Prelude.{◌≡◌, ◌≤◌, ℕ, List, take, All, Contains}
use Rattle.disk_trait.specs.declared.facts.DiskFacts.{Ghosts}
use Rattle.op_model.specs.Held.{ReplicaHeld}
use Rattle.op_model.specs.Machine.{Event, Answer}
use Rattle.op_model.specs.declared.op.Op.{Op}
use Rattle.recovery.specs.Image.{IsImage}
use Rattle.hub_parts.specs.Locked.{LockedHeld}
use Rattle.shared_hub.specs.Committing.{CommitterHeld, IsTurn, Meeting}
use Rattle.shared_hub.specs.Moments.{WasSettledAt}
use Rattle.shared_hub.specs.Promises.{WasAnswered}

-- a pass entered this answer, and as many operations were settled then as after a meeting of this turn
pub record WasAnsweredIn {D : Type 0} (facts : Ghosts D) (l : LockedHeld) (c : CommitterHeld D) (event : Event) (answer : Answer) : Type 0 where
  pub turn : IsTurn facts l c
  pub answered : WasAnswered l event answer
  pub settled : All (WasSettledAt c.pass.moments) answered.new.moments

-- how many operations were settled when it was answered
abbrev pub settled_then : {D : Type 0} {facts : Ghosts D} {l : LockedHeld} {c : CommitterHeld D} {event : Event} {answer : Answer}
    → WasAnsweredIn facts l c event answer → ℕ
settled_then w = w.answered.entered.after.replica.settled

-- after this meeting of the turn at least n operations were settled
pub record HasSettled {D : Type 0} (c : CommitterHeld D) (n : ℕ) (meeting : Meeting D) : Type 0 where
  pub among : Contains c.met meeting
  pub enough : n ≤ meeting.locked.replica.settled

-- a crash at some moment since such a meeting, in a device call or between two, may have left this file
pub record LeftSince {D : Type 0} (facts : Ghosts D) (c : CommitterHeld D) (n : ℕ) (file : List ℕ) : Type 0 where
  pub tells : facts.tells c.flusher.store.disk
  pub meeting : Meeting D
  pub settled : HasSettled c n meeting
  pub left : facts.left_since c.flusher.store.disk (facts.time meeting.flusher.store.disk) file

-- the image of the file is the replica's: a causally closed beginning of its list, of at least n operations
pub record HoldsImage (h : ReplicaHeld) (n : ℕ) (file : List ℕ) : Type 0 where
  pub version : ℕ
  pub count : ℕ
  pub enough : n ≤ count
  pub image : IsImage file h.replica version (take count h.list)

-- this is what is told of the first n operations, and the image of the file has at least these
pub record HoldsTold {A : Type 0} (h : ReplicaHeld) (n : ℕ) (told : List Op → A) (it : A) (file : List ℕ) : Type 0 where
  pub is : it ≡ told (take n h.list)
  pub holds : HoldsImage h n file
