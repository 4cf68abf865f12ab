use Rattle.std.proofs.Common.{Err, ap, inl, sym}
use Rattle.op_model.specs.Machine.{Ticket}
use Rattle.shared_hub.specs.Shared.{asked_then}
use Rattle.shared_desk.proofs.EditLemmas.{edit_acknowledged, edit_left_open, edit_refused_so}
use Rattle.shared_desk.proofs.RefusalLemmas.{edit_refused}
use Rattle.shared_desk.proofs.desk.SharedDesk.edit.Goals as goal
use Rattle.shared_desk.proofs.desk.SharedDesk.edit.Goals.{then-acknowledge, else-acknowledge}

-- an edit is refused with one of the numbers that have an answer
pub refusal_of-refusal-requires : goal.refusal_of-refusal-requires
refusal_of-refusal-requires g c = edit_refused c.in-Err.refusal c.self.inside.pass c.args.placed.now c.in-Err.ensures.refused

-- a ticket was given: it was acknowledged, or not
pub returns-after-acknowledge : goal.returns-after-acknowledge
returns-after-acknowledge g c =
    let edited = c.in-Ok.ensures.entered in
    elim c.if-acknowledge.branch [
      | then-acknowledge w ↦ rw (w.result-is, ← c.self.view_is)
          (inl (edit_acknowledged c.self.inside.pass c.edit_placed.new.pass c.acknowledge.new.pass (asked_then c.args.placed.now) c.in-Ok.ticket _ edited
          (c.acknowledge.ensures.entered w.if-acknowledge.true) (ap (λ (t : Ticket). t.rev) (sym c.ticket.view_is))))
      | else-acknowledge w ↦ rw (w.result-is, c.acknowledge.ensures.same w.if-acknowledge.false, ← c.self.view_is)
          (inl (edit_left_open c.self.inside.pass c.edit_placed.new.pass (asked_then c.args.placed.now) c.in-Ok.ticket edited
          (c.acknowledge.ensures.unsettled w.if-acknowledge.false)))
    ]

-- the hub refused it
pub returns-after-eq : goal.returns-after-eq
returns-after-eq g c =
    rw (c.refused_answer.ensures, c.place-place.ensures, ← c.self.view_is)
    (edit_refused_so c.in-Err.refusal c.refusal_of-refusal.result c.self.inside.pass c.edit_placed.new.pass c.args.placed.now
    c.refusal_of-refusal.ensures.number c.refusal_of-refusal.ensures.stopping c.in-Err.ensures.same
    (λ asked. c.in-Err.ensures.stopping (ap Err asked)) c.in-Err.ensures.refused)
