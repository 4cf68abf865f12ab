use Rattle.op_list.proofs.Holding.{shown, ends_count}
use Rattle.op_list.proofs.op_slice.OpSlice.len.Goals as goal

pub returns : goal.returns
returns c = ends_count _ _ _ (shown _ _ c.args.self.now c.self.invariant c.self.view_is)
