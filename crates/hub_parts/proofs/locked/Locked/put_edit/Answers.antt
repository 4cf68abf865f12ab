use Rattle.std.proofs.Common.{◌≡◌, true, sym, ap, subst, ◌∙◌}
use Rattle.op_model.specs.Actions.{made_by_action}
use Rattle.op_model.specs.Waiting.{changes_length, waiting_length}
use Rattle.model_laws.proofs.RoomInTurn.{action_not_refused}
use Rattle.hub_parts.specs.Locked.{state_of, LockedHeld}
use Rattle.op_model.specs.Machine.{edit_length, has_record_room}
use Rattle.hub_parts.proofs.KeptParts.{keeps_edit}
use Rattle.hub_parts.proofs.WaitingLengths.{waits_edit}
use Rattle.hub_parts.proofs.WaitLemmas.{counts_grown, edit_adds, waits_grown}
use Rattle.hub_parts.proofs.locked.Locked.put_edit.Goals as goal

pub invariant_of-self-in-Ok : goal.invariant_of-self-in-Ok
invariant_of-self-in-Ok c =
    let l : LockedHeld = record { replica = c.self.inside.replica; begun = c.self.inside.begun; failure_told = c.self.inside.failure_told } in
    let e = c.args.edit.now in
    let more = made_by_action l.replica.list l.replica.replica e in
    let closed = c.list-list.ensures.sound.closed in
    let due = (rw (sym c.self.view_is) at c.requires.decided).can.due in
    let within = c.self.invariant.0.within in
    let is = c.in-Ok.ensures.made in (
      keeps_edit l c.put_prepared.new.self c.args.session e c.self.invariant.0 closed due (subst (λ (it : LockedHeld). has_record_room (state_of it) (edit_length it.replica e) ≡ true) (sym c.self.view_is) c.requires.room) is,
      waits_grown l.replica c.put_prepared.new.self l.begun (changes_length e.changes more) more c.self.inside.waiting.items c.put_made.new.waiting.items
          c.self.invariant.1 within (ap (λ h. h.list) is)
          (ap (λ h. waiting_length l.begun h.steps h.list) is ∙ waits_edit l.replica c.args.session e l.begun within)
          (edit_adds l.replica e c.self.inside.waiting.items c.put_made.new.waiting.items c.ops.result.now (c.ops.ensures ∙ c.in_ok-prepared.ensures.prepared.operations)
          c.in_ok-put_made.ensures.ok),
      counts_grown l.replica c.put_prepared.new.self l.begun c.self.inside.begun_bytes more c.self.invariant.2 within (ap (λ h. h.list) is),
    )

pub put_made-requires : goal.put_made-requires
put_made-requires c =
    let replica = c.self.inside.replica in
    let closed = c.list-list.ensures.sound.closed in
    let due = (rw (sym c.self.view_is) at c.requires.decided).can.due in
    (replica.list, replica.replica, closed, action_not_refused replica.list replica.replica c.args.edit.now closed due, c.ops.ensures ∙ c.in_ok-prepared.ensures.prepared.operations)
