use Rattle.std.proofs.Common.{sym, ◌∙◌, arith}
use Rattle.char_sequence.proofs.FindLemmas.{pass_cell}
use Rattle.char_sequence.proofs.PackedLemmas.{has_another_id}
use Rattle.char_sequence.proofs.cell_list.CellList.find.Goals as goal
use Rattle.char_sequence.proofs.cell_list.CellList.find.Goals.{else-may_have-via-then-may_have+else-has_id, else-may_have-via-else-may_have}

pub loop-i-preserved : goal.loop-i-preserved
loop-i-preserved c =
    c.loop-i.invariant ∙ pass_cell c.args.self.now c.loop-i.i c.args.id.now (elim c.else-may_have.branch [
      | else-may_have-via-then-may_have+else-has_id w ↦ rw w.get.ensures at (sym w.has_id.ensures ∙ w.if-has_id.false)
      | else-may_have-via-else-may_have w ↦ has_another_id c.self.inside.makers.items c.self.inside.cells.items c.loop-i.i c.index.result.now
          c.args.self.now c.args.id.now c.self.view_is c.index.ensures (omega (arith, c.loop-i-test.true, c.len-i-end.ensures)) (λ same. c.may_have.ensures w.if-may_have.false (same ∙ sym c.counter-counter.ensures.value))
    ])
