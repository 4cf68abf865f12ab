use Rattle.std.proofs.Common.{sym, ◌∙◌, ap}
use Rattle.op_model.specs.Lasting.{at_of}
use Rattle.char_sequence.specs.Cells.{shown}
use Rattle.char_sequence.specs.Chunks.{cells_of}
use Rattle.std.proofs.Common.{Some, length}
use Rattle.char_sequence.proofs.LastingLemmas.{at_end}
use Rattle.char_sequence.proofs.sequence.Sequence.at_in.Goals as goal

pub returns-in-EndOfText-clause-at : goal.returns-in-EndOfText-clause-at
returns-in-EndOfText-clause-at c = λ ops doc holds.
    let all = c.shown.ensures ∙ ap (λ held. length (shown (cells_of held))) c.self.view_is in
    ap Some (at_end c.args.self.now ops doc c.shown.result all holds) ∙ ap (at_of ops doc) (sym c.in-EndOfText.is)
