use Rattle.std.proofs.Common.{◌∙◌}
use Rattle.char_sequence.proofs.PackedLemmas.{cells_behind, on_error, one_more, same_cells, still}
use Rattle.char_sequence.proofs.cell_list.CellList.push.Goals as goal

pub returns-in_err-packed-clause-err : goal.returns-in_err-packed-clause-err
returns-in_err-packed-clause-err c =
    on_error c.from_residual.result (same_cells _ _ c.self.inside.cells.items c.pack.ensures.grows c.self.invariant ∙ c.self.view_is)

pub invariant_of-self-in_err-push : goal.invariant_of-self-in_err-push
invariant_of-self-in_err-push c = rw c.in_err-push.ensures.items (still _ _ _ c.pack.ensures.grows c.self.invariant)

pub returns-in_err-push-clause-err : goal.returns-in_err-push-clause-err
returns-in_err-push-clause-err c =
    on_error c.from_residual-in_err-push.result
    (rw c.in_err-push.ensures.items (same_cells _ _ c.self.inside.cells.items c.pack.ensures.grows c.self.invariant ∙ c.self.view_is))

pub invariant_of-self-2 : goal.invariant_of-self-2
invariant_of-self-2 c =
    one_more _ _ c.self.inside.cells.items _ c.in_ok-packed.packed c.in_ok-push.ensures.items c.pack.ensures.grows c.self.invariant
    c.in_ok-packed.ensures.packed.0

pub returns-clause-put : goal.returns-clause-put
returns-clause-put c =
    rw (← c.self.view_is)
    (cells_behind _ _ c.self.inside.cells.items _ c.in_ok-packed.packed c.args.cell c.in_ok-push.ensures.items c.pack.ensures.grows
    c.self.invariant c.in_ok-packed.ensures.packed.1)
