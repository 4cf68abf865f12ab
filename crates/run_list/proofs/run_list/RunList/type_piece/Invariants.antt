use Rattle.run_list.proofs.Typing.{Typing}
use Rattle.run_list.proofs.run_list.RunList.type_piece.Given as goal

abbrev pub invariant-loop-value : goal.invariant-loop-value
invariant-loop-value l = Typing l.fn.self l.piece.first l.piece.others l.value-index l.self
