use Rattle.char_sequence.proofs.HiddenLemmas.{hides_cell, hides_more}
use Rattle.char_sequence.proofs.ShownLemmas.{is_gone}
use Rattle.char_sequence.proofs.hidden.first_shown.Goals as goal

pub loop-cell-preserved : goal.loop-cell-preserved
loop-cell-preserved c =
    let held = c.args.chunks.now in
    let cell = hides_cell held c.loop-cell.at c.in-Some.behind c.in-Some.cell c.in-Some.ensures (is_gone c.in-Some.cell.is_removed c.if-not-cell.false) in
    let here = hides_more held c.args.from.now c.loop-cell.at c.in-Some.behind c.loop-cell.invariant cell in
    hides_more held c.args.from.now c.in-Some.behind c.past_hidden-at-in-Some.result here c.past_hidden-at-in-Some.ensures
