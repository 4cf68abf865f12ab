use Rattle.std.proofs.Common.{[]}
use Rattle.op_list.proofs.Holding.{held_is, is_held, holds_none}
use Rattle.op_list.proofs.op_list.OpList.new.Goals as goal

pub invariant_of-result : goal.invariant_of-result
invariant_of-result c =
    rw (c.new.ensures.items, c.new-2.ensures.items) (is_held [] [] [] holds_none)

pub returns : goal.returns
returns c = rw (c.new.ensures.items, c.new-2.ensures.items) (held_is [] [] [] holds_none)
