use Rattle.std.proofs.Common.{sym, ap}
use Rattle.op_model.specs.Machine.{Ticket}
use Rattle.session_threads.proofs.ServeLemmas.{ticket_settled, ticket_acknowledged}
use Rattle.session_threads.proofs.hub_edit.answer_ticket.Goals as goal

-- what is settled is acknowledged at once
pub returns-then-ack-clause-answer : goal.returns-then-ack-clause-answer
returns-then-ack-clause-answer g c =
    let (acks, how, calls, same) = ticket_settled g.D.DiskFacts _ _ c.args.ticket c.if-ack.ensures.call in
    (acks, how, calls, ap (λ (t : Ticket). t.rev) (sym c.ticket.view_is))

-- another one behind a commit
pub returns-clause-answer : goal.returns-clause-answer
returns-clause-answer g c =
    let (acks, how, calls, same) =
    ticket_acknowledged g.D.DiskFacts _ _ _ _ c.args.ticket c.if-ack.ensures.call c.if-not-commit.ensures.commits c.if-not-ack.ensures.call in
    (acks, how, calls, ap (λ (t : Ticket). t.rev) (sym c.ticket.view_is))
