use Rattle.std.proofs.Common.{◌≡◌, true, false, length, arith, ap, sym, ◌∙◌}
use Rattle.op_model.specs.Machine.{Ticket}
use Rattle.op_model.specs.Held.{with_edit}
use Rattle.hub_parts.specs.Locked.{state_of}
use Rattle.hub_parts.proofs.TicketEnds.{ticket_ends}
use Rattle.shared_hub.specs.Books.{ends_of}
use Rattle.shared_hub.proofs.BookLemmas.{few_ends}
use Rattle.shared_hub.proofs.MomentLemmas.{books_edited}
use Rattle.shared_hub.proofs.guarded.Guarded.enter_edit.Goals as goal

-- there are fewer entries than kept steps
pub add-requires : goal.add-requires
add-requires g c = record {
  few = omega (arith, ap length c.requires.mine, few_ends c.args.pass.now.number c.args.self.now.locked.replica.steps, c.requires.sound.sound.places);
}

-- if it was made before, all is as it was
pub invariant_of-self : goal.invariant_of-self
invariant_of-self g c =
    let t = c.in-Ok.ticket in
    let old : t.known ≡ true = ap (λ (given : Ticket). given.known) (sym c.ticket.view_is) ∙ c.if-ticket.true in
    let same : c.edit.new.self ≡ c.self.inside.locked = rw old at c.in-Ok.ensures.made in
    rw same c.self.invariant

-- if it is new, the ticket's end is entered
pub invariant_of-self-in-Ok : goal.invariant_of-self-in-Ok
invariant_of-self-in-Ok g c =
    let l = c.self.inside.locked in
    let p = c.args.pass.now in
    let t = c.in-Ok.ticket in
    let mine = c.requires.mine ∙ ap (λ held. ends_of p.number held.locked.replica.steps) (sym c.self.view_is) in
    let new : t.known ≡ false = ap (λ (given : Ticket). given.known) (sym c.ticket.view_is) ∙ c.if-ticket.false in
    let made_is = rw new at c.in-Ok.ensures.made in
    let made = made_is ∙ ap (λ k. record l { replica = with_edit l.replica k c.args.edit.now }) c.number.ensures in
    let ends = ticket_ends (state_of l) (state_of c.edit.new.self) c.number.result c.args.edit.now t c.in-Ok.ensures.call new in
    rw (c.add.ensures.books, ap (λ (given : Ticket). given.end) c.ticket.view_is)
    (books_edited l c.edit.new.self c.self.inside.books p c.args.edit.now t.end c.self.invariant mine made ends c.in-Ok.ensures.fits)

-- if it is refused, all is as it was
pub invariant_of-self-in-Err : goal.invariant_of-self-in-Err
invariant_of-self-in-Err g c = rw c.in-Err.ensures.same c.self.invariant
