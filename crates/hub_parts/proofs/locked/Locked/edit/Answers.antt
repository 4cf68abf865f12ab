use Rattle.std.proofs.Common.{◌≡◌, true, sym, ap, subst, ◌∙◌}
use Rattle.op_model.specs.Machine.{edit_length, has_record_room, refused, EditStep}
use Rattle.replica_core.specs.Refusal.{number_of}
use Rattle.hub_parts.specs.Locked.{state_of, LockedHeld}
use Rattle.hub_parts.proofs.SharedCalls.{edit_refused}
use Rattle.hub_parts.proofs.locked.Locked.edit.Goals as goal

pub returns-in-Err-clause-call : goal.returns-in-Err-clause-call
returns-in-Err-clause-call c =
    let l : LockedHeld = record { replica = c.self.inside.replica; begun = c.self.inside.begun; failure_told = c.self.inside.failure_told } in
    subst (λ (it : LockedHeld). EditStep (state_of it) c.args.session c.args.edit.now (refused (number_of c.in-Err.refusal)) (state_of it)) c.self.view_is
    (edit_refused l c.args.session c.args.edit.now _ (sym c.in_default.ensures) c.if-self.false c.in-Err.ensures.refused)

pub put_edit-requires-clause-room : goal.put_edit-requires-clause-room
put_edit-requires-clause-room c =
    let l : LockedHeld = record { replica = c.self.inside.replica; begun = c.self.inside.begun; failure_told = c.self.inside.failure_told } in
    let sized : c.in-Ok.decided.bytes ≡ edit_length l.replica c.args.edit.now = c.in-Ok.ensures.decided.length in
    let room : has_record_room (state_of l) c.in-Ok.decided.bytes ≡ c.has_record_room.result = rw (sym c.self.view_is) at (sym c.has_record_room.ensures) in
    subst (λ (it : LockedHeld). has_record_room (state_of it) (edit_length it.replica c.args.edit.now) ≡ true) c.self.view_is
    (ap (λ n. has_record_room (state_of l) n) (sym sized) ∙ room ∙ c.if-not-has_record_room.false)
