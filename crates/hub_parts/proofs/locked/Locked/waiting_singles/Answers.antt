use Rattle.std.proofs.Common.{arith, sym}
use Rattle.hub_parts.proofs.WaitLemmas.{bytes_of_both}
use Rattle.hub_parts.proofs.locked.Locked.waiting_singles.Goals as goal

pub overflow_sub-result : goal.overflow_sub-result
overflow_sub-result c =
    omega (arith, bytes_of_both c.self.inside.begun c.self.inside.replica.list, c.self.invariant.2, c.records_length.ensures)

pub returns : goal.returns
returns c =
    rw (sym c.self.view_is)
    (omega (arith, bytes_of_both c.self.inside.begun c.self.inside.replica.list, c.self.invariant.2, c.records_length.ensures))
