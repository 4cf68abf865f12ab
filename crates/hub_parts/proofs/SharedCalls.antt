-- What an edit and a merge of a locked part are to the machine.
use Rattle.std.proofs.Common.{◌≡◌, ℕ, true, false, Some, None, refl}
use Rattle.op_model.specs.declared.op.Op.{Op}
use Rattle.op_model.specs.Actions.{Asked}
use Rattle.op_model.specs.Machine.{Ticket, ticket, applied, known, early, refused, known_ticket, new_edit_alone, merge_alone, has_record_room}
use Rattle.op_model.specs.Machine.{EditStep, MergeStep}
use Rattle.model_laws.proofs.Tickets.{known_is}
use Rattle.op_model.specs.Records.{record_length}
use Rattle.op_model.specs.Held.{with_merge, ReplicaHeld}
use Rattle.hub_parts.specs.Locked.{state_of, LockedHeld}
use Rattle.hub_parts.proofs.RoomAnswers.{refused_alone, known_alone, early_alone, full_merge, wanting_merge}

-- an edit that was made before
pub edit_known : (l : LockedHeld) (session : ℕ) (e : Asked) (t : Ticket) → known_ticket l.replica e ≡ Some t
    → EditStep (state_of l) session e (ticket t) (state_of l)
edit_known l session e t k = let flag = (known_is l.replica e t k).known in (rw k refl, rw flag refl)

-- a new edit that the replica refuses
pub edit_refused : (l : LockedHeld) (session : ℕ) (e : Asked) (n : ℕ) → known_ticket l.replica e ≡ None → l.failure_told ≡ false
    → new_edit_alone l.replica e ≡ refused n
    → EditStep (state_of l) session e (refused n) (state_of l)
edit_refused l session e n new works answer =
    (rw (new, works) (refused_alone _ _ _ answer), refl)

-- a merge that the replica refuses
pub merge_refused : (l : LockedHeld) (peer : ℕ) (op : Op) (n : ℕ) → l.failure_told ≡ false
    → merge_alone l.replica op ≡ refused n
    → MergeStep (state_of l) peer op (refused n) (state_of l)
merge_refused l peer op n works answer =
    (rw works (refused_alone _ _ _ answer), refl)

-- a merge that has no room
pub merge_full : (l : LockedHeld) (peer : ℕ) (op : Op) → l.failure_told ≡ false
    → merge_alone l.replica op ≡ applied → has_record_room (state_of l) (record_length op) ≡ false
    → MergeStep (state_of l) peer op (refused 8) (state_of l)
merge_full l peer op works answer room =
    (rw works (full_merge _ _ room answer), refl)

-- a merge that has no memory
pub merge_wanting : (l : LockedHeld) (peer : ℕ) (op : Op) (n : ℕ) → l.failure_told ≡ false
    → merge_alone l.replica op ≡ applied → has_record_room (state_of l) (record_length op) ≡ true → n ≡ 1
    → MergeStep (state_of l) peer op (refused n) (state_of l)
merge_wanting l peer op n works answer room one =
    (rw works (wanting_merge _ _ _ room answer one), refl)

-- a merge of an operation that is there
pub merge_known : (l : LockedHeld) (peer : ℕ) (op : Op) → l.failure_told ≡ false → merge_alone l.replica op ≡ known
    → MergeStep (state_of l) peer op known (state_of l)
merge_known l peer op works answer =
    (rw works (known_alone _ _ answer), refl)

-- a merge of an operation that comes early
pub merge_early : (l : LockedHeld) (peer : ℕ) (op : Op) → l.failure_told ≡ false → merge_alone l.replica op ≡ early
    → MergeStep (state_of l) peer op early (state_of l)
merge_early l peer op works answer =
    (rw works (early_alone _ _ answer), refl)

-- a merge that is applied
pub merge_applied : (l : LockedHeld) (next : ReplicaHeld) (peer : ℕ) (op : Op) → l.failure_told ≡ false
    → merge_alone l.replica op ≡ applied → has_record_room (state_of l) (record_length op) ≡ true → next ≡ with_merge l.replica peer op
    → MergeStep (state_of l) peer op applied (state_of (record l { replica = next }))
merge_applied l next peer op works answer room is =
    (rw (works, room) answer, rw is refl)
