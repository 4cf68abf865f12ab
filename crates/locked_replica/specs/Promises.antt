-- Crash safety in one law: what is opened after a crash has all that was promised before it.
use Rattle.std.specs.Prelude.{◌≡◌, ◌≢◌, ℕ, ◌+◌, ◌≤◌, true, List, [], ◌∷◌, length, take, Contains}
use Rattle.disk_trait.specs.declared.facts.DiskFacts.{Ghosts}
use Rattle.op_ids.specs.Clock.{count_of}
use Rattle.op_model.specs.declared.op.Op.{Op}
use Rattle.op_model.specs.Actions.{made_by_action, Asked}
use Rattle.op_model.specs.Causality.{clock_of, HasOp, IsCausallyClosed}
use Rattle.op_model.specs.Held.{ReplicaHeld}
use Rattle.op_model.specs.Machine.{Event, ack, Answer, acknowledged, operations, clock}
use Rattle.op_model.specs.Replay.{reached}
use Rattle.locked_replica.specs.Hub.{Parts}
use Rattle.locked_replica.specs.Run.{Ran, calls_made}

-- A crash at some moment since the end of the first k of these calls may have left this file.
pub record Crashes {D : Type 0} (facts : Ghosts D) (old : Parts D) (events : List (Event × Answer)) (new : Parts D) (k : ℕ) (file : List ℕ) : Type 0 where
  pub tells : facts.tells old.store.disk
  pub ran : Ran facts old events new
  pub front : k ≤ length events
  pub left : facts.left_since new.store.disk (facts.time old.store.disk + calls_made (take k events)) file

-- where the operations of the edit end that an event asks about
abbrev pub asked_end : Event → ℕ
asked_end (ack t) = t.end
asked_end event = 0

-- What an answer promised is in this list: an edit that was acknowledged with all before it, each operation that was told, and as
-- many of each replica's as a clock counts that was told.
abbrev pub HasPromised : List Op → Event → Answer → Type 0
HasPromised list event (acknowledged true) = asked_end event ≤ length list
HasPromised list event (operations ops) = (op : Op) → HasOp ops op → HasOp list op
HasPromised list event (clock c) = (replica : ℕ) → count_of c replica ≤ count_of (clock_of list) replica
HasPromised list event answer = Unit {0}

-- what all of these promised
abbrev pub HasAllPromised : List Op → List (Event × Answer) → Type 0
HasAllPromised list [] = Unit {0}
HasAllPromised list (e ∷ es) = HasPromised list e.0 e.1 × HasAllPromised list es

-- no edit makes an id anew that is in its replica's list
abbrev pub MakesNewIds : ReplicaHeld → Type 0
MakesNewIds h = (edit : Asked) (op there : Op) → HasOp (made_by_action h.list h.replica edit) op → HasOp h.list there → op.id ≢ there.id

-- What a replica is that was opened after a crash, and held `last` at the end: it has what was settled and promised until the crash.
pub record IsRecovered (least : ℕ) (before : List (Event × Answer)) (last opened : ReplicaHeld) : Type 0 where
  -- the same replica goes on
  pub owner : opened.replica ≡ last.replica
  -- its list is a beginning of the last one
  pub begins : opened.list ≡ take (length opened.list) last.list
  -- causally closed
  pub closed : IsCausallyClosed opened.list
  -- it ends where a step of the last one ended, or where that was opened: an edit is there whole or not at all
  pub whole : Contains (reached last.opened last.steps) (length opened.list)
  -- with all that was settled
  pub settled : least ≤ length opened.list
  -- and all that was acknowledged and told, so no id that was sent is made again
  pub promised : HasAllPromised opened.list before
  pub new_ids : MakesNewIds opened
