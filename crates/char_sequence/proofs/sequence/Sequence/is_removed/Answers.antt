use Rattle.std.proofs.Common.{◌∙◌, sym, ap}
use Rattle.std.proofs.lemmas.Bool.{true≢false}
use Rattle.char_sequence.specs.Cells.{has_cell}
use Rattle.char_sequence.specs.Chunks.{cells_of}
use Rattle.char_sequence.proofs.KnownLemmas.{has_cell-content}
use Rattle.char_sequence.proofs.RemovalLemmas.{removal_told}
use Rattle.char_sequence.proofs.sequence.Sequence.is_removed.Goals as goal

pub returns-in-Some-cell : goal.returns-in-Some-cell
returns-in-Some-cell c = λ ops doc character holds there same.
    let found = sym c.cell.ensures.cell ∙ c.in-Some-cell.is in
    removal_told c.args.self.now ops doc c.args.id c.in-Some.at.chunk c.in-Some.at.at c.in-Some-cell.cell character
    (rw c.self.view_is at c.in-Some.ensures) (rw c.self.view_is at found) holds same

pub returns-in-None : goal.returns-in-None
returns-in-None c = λ ops doc character holds there same.
    let gone = rw c.self.view_is at c.in-None.ensures in
    absurd (true≢false (sym there ∙ (sym (has_cell-content (cells_of c.args.self.now) ops doc c.args.id holds) ∙ gone)))
