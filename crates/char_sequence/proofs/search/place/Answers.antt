use Rattle.std.proofs.Common.{◌≡◌, ◌+◌, suc, sym, ◌∙◌, arith}
use Rattle.char_sequence.proofs.FindLemmas.{cell_there, pass_cell}
use Rattle.char_sequence.proofs.search.place.Goals as goal

pub returns-then-has_id : goal.returns-then-has_id
returns-then-has_id c =
    let one = cell_there _ c.args.id.now (rw c.get.ensures at (sym c.has_id.ensures ∙ c.if-has_id.true)) in
    let up : c.loop-i.i + 1 ≡ suc c.loop-i.i = omega arith in
    (one.0, rw up one.1, one.2)

pub loop-i-preserved : goal.loop-i-preserved
loop-i-preserved c =
    c.loop-i.invariant ∙ pass_cell c.args.cells.now c.loop-i.i c.args.id.now (rw c.get.ensures at (sym c.has_id.ensures ∙ c.if-has_id.false))
