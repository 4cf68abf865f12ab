use Rattle.session_threads.proofs.ServeLemmas.{answered, answered_refusal, can_be_refused, ends_within}
use Rattle.session_threads.proofs.hub_edit.answer_edit.Goals as goal

pub returns-in-Ok-clause-answer : goal.returns-in-Ok-clause-answer
returns-in-Ok-clause-answer g c =
    answered g.D.DiskFacts c.args.session _ _ _ c.args.edit.now c.in-Ok.ticket c.answer_ticket.result c.in-Ok.ensures.call c.answer_ticket.ensures.answer

pub returns-in-Err-clause-answer : goal.returns-in-Err-clause-answer
returns-in-Err-clause-answer g c =
    answered_refusal g.D.DiskFacts c.args.session _ _ c.args.edit.now c.refusal_of.result _ _ c.refusal_of.ensures c.in-Err.ensures.call c.answer_refusal.ensures

pub refusal_of-requires-clause-number : goal.refusal_of-requires-clause-number
refusal_of-requires-clause-number g c = can_be_refused g.D.DiskFacts c.args.session _ _ c.args.edit.now _ c.in-Err.ensures.call

pub answer_ticket-requires-clause-within : goal.answer_ticket-requires-clause-within
answer_ticket-requires-clause-within g c = ends_within g.D.DiskFacts c.args.session _ _ c.args.edit.now c.in-Ok.ticket c.in-Ok.ensures.call
