-- Nothing was handed on by the turns so far.
use Rattle.web_lines.proofs.TurnLemmas.{Stands}
use Rattle.web_lines.proofs.message_lines.MessageLinesRead.read.Given as goal

abbrev pub invariant-loop : goal.invariant-loop
invariant-loop g l = Stands g.S.Write.contents g.S.Read.remaining l.initial.self l.self
