use Rattle.char_sequence.proofs.PackedLemmas.{got}
use Rattle.char_sequence.proofs.cell_list.CellList.get.Goals as goal

pub returns : goal.returns
returns c =
    let there = rw c.deref.ensures.value at c.in_ok-packed.ensures.lookup in
    rw c.new.ensures
    (got c.self.inside.makers.items c.self.inside.cells.items c.args.i c.in_ok-packed.packed.now c.args.self.now c.counter.result c.index.result.now
    c.self.view_is c.self.invariant there.1 there.3.0 c.counter.ensures.counter c.index.ensures)
