use Rattle.web_lines.proofs.answer_messages.AnswerMessages.close.Goals as goal

pub returns-clause-closed : goal.returns-clause-closed
returns-clause-closed g c = rw (← c.self.view_is) (rw c.in_ok-reason.ensures at c.send_close.ensures.closed)
