use Rattle.std.proofs.Common.{sym, ◌∙◌, ap}
use Rattle.char_sequence.specs.Cells.{behind_shown}
use Rattle.char_sequence.specs.Chunks.{cells_of}
use Rattle.char_sequence.proofs.GapLemmas.{behind_all}
use Rattle.char_sequence.proofs.shown.behind.Goals as goal

pub returns-in-Some-clause-rest : goal.returns-in-Some-clause-rest
returns-in-Some-clause-rest c =
    c.in-Some.ensures.2.rest ∙ ap (behind_shown (cells_of c.args.chunks.now)) c.in-Some.ensures.1

pub returns-in-None-clause-rest : goal.returns-in-None-clause-rest
returns-in-None-clause-rest c = c.end.ensures.from ∙ sym (behind_all (cells_of c.args.chunks.now) c.args.count c.in-None.ensures)
