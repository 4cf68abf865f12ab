use Rattle.std.proofs.lemmas.List.{length-map}
use Rattle.char_sequence.proofs.PackedLemmas.{cells_removed}
use Rattle.char_sequence.proofs.cell_list.CellList.remove.Goals as goal

pub returns-clause-removed : goal.returns-clause-removed
returns-clause-removed c = λ d there.
    let inside = rw (← c.self.view_is) at c.requires in
    rw (← c.self.view_is)
    (cells_removed c.self.inside.makers.items c.self.inside.cells.items c.args.i c.index_mut-cell.result.now d c.index_mut-cell.ensures.value
    (rw length-map at inside) (rw c.self.view_is there))
