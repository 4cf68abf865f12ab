use Rattle.std.proofs.Common.{refl, sym, ap, ◌∙◌}
use Rattle.op_model.specs.Held.{with_merge}
use Rattle.replica_core.specs.Refusal.{number_of}
use Rattle.hub_parts.specs.Locked.{LockedHeld}
use Rattle.hub_parts.proofs.SharedCalls.{merge_known, merge_early, merge_refused, merge_full, merge_wanting, merge_applied}
use Rattle.hub_parts.proofs.locked.Locked.merge.Goals as goal

pub returns-in-Ok-Known-clause-call : goal.returns-in-Ok-Known-clause-call
returns-in-Ok-Known-clause-call c =
    let l : LockedHeld = record { replica = c.self.inside.replica; begun = c.self.inside.begun; failure_told = c.self.inside.failure_told } in
    rw (sym c.self.view_is) (merge_known l c.args.peer c.args.op c.if-self.false (rw c.in-Ok-Known.field-0-is at c.in-Ok-Known.ensures.answer))

pub returns-in-Ok-Early-clause-call : goal.returns-in-Ok-Early-clause-call
returns-in-Ok-Early-clause-call c =
    let l : LockedHeld = record { replica = c.self.inside.replica; begun = c.self.inside.begun; failure_told = c.self.inside.failure_told } in
    rw (sym c.self.view_is) (merge_early l c.args.peer c.args.op c.if-self.false (rw c.in-Ok-Early.field-0-is at c.in-Ok-Early.ensures.answer))

pub returns-in-Err-clause-call : goal.returns-in-Err-clause-call
returns-in-Err-clause-call c =
    let l : LockedHeld = record { replica = c.self.inside.replica; begun = c.self.inside.begun; failure_told = c.self.inside.failure_told } in
    rw (sym c.self.view_is) (merge_refused l c.args.peer c.args.op _ c.if-self.false c.in-Err.ensures.refused)

pub returns-then-not-has_record_room-clause-call : goal.returns-then-not-has_record_room-clause-call
returns-then-not-has_record_room-clause-call c =
    let l : LockedHeld = record { replica = c.self.inside.replica; begun = c.self.inside.begun; failure_told = c.self.inside.failure_told } in
    let room = rw (sym c.self.view_is, c.record_length.ensures.value) at (sym c.has_record_room.ensures) in
    let applies = rw c.in-Ok-Applied.field-0-is at c.in-Ok-Applied.ensures.answer in
    rw (sym c.self.view_is) (merge_full l c.args.peer c.args.op c.if-self.false applies (room ∙ c.if-not-has_record_room.true))

pub put_merge-requires-clause-room : goal.put_merge-requires-clause-room
put_merge-requires-clause-room c =
    rw c.record_length.ensures.value at (sym c.has_record_room.ensures ∙ c.if-not-has_record_room.false)

pub returns-in-Ok-clause-call : goal.returns-in-Ok-clause-call
returns-in-Ok-clause-call c =
    let l : LockedHeld = record { replica = c.self.inside.replica; begun = c.self.inside.begun; failure_told = c.self.inside.failure_told } in
    let room = rw (sym c.self.view_is, c.record_length.ensures.value) at (sym c.has_record_room.ensures) in
    let applies = rw c.in-Ok-Applied.field-0-is at c.in-Ok-Applied.ensures.answer in
    rw (c.in-Ok.ensures.merged, sym c.self.view_is)
    (merge_applied l (with_merge l.replica c.args.peer c.args.op) c.args.peer c.args.op c.if-self.false applies (room ∙ c.if-not-has_record_room.false) refl)

pub returns-in-Err-put_merge-clause-call : goal.returns-in-Err-put_merge-clause-call
returns-in-Err-put_merge-clause-call c =
    let l : LockedHeld = record { replica = c.self.inside.replica; begun = c.self.inside.begun; failure_told = c.self.inside.failure_told } in
    let room = rw (sym c.self.view_is, c.record_length.ensures.value) at (sym c.has_record_room.ensures) in
    let applies = rw c.in-Ok-Applied.field-0-is at c.in-Ok-Applied.ensures.answer in
    rw (c.in-Err-put_merge.ensures.err, sym c.self.view_is)
    (merge_wanting l c.args.peer c.args.op _ c.if-self.false applies (room ∙ c.if-not-has_record_room.false) (ap number_of c.in-Err-put_merge.ensures.memory))
