use Rattle.std.proofs.Common.{arith}
use Rattle.op_list.proofs.Holding.{shown, ends_count, few_ends, end_before}
use Rattle.op_list.proofs.op_slice.OpSlice.start.Goals as goal

pub offset_bounds-self-inside-n : goal.offset_bounds-self-inside-n
offset_bounds-self-inside-n c =
    let holds = shown _ _ c.args.self.now c.self.invariant c.self.view_is in
    omega (arith, few_ends _ _ _ holds, ends_count _ _ _ holds, c.requires)

pub bounds-self-inside-n : goal.bounds-self-inside-n
bounds-self-inside-n c =
    let holds = shown _ _ c.args.self.now c.self.invariant c.self.view_is in
    omega (arith, ends_count _ _ _ holds, c.requires, c.if-n-eq0.false)

pub returns-else-n-eq0 : goal.returns-else-n-eq0
returns-else-n-eq0 c =
    let holds = shown _ _ c.args.self.now c.self.invariant c.self.view_is in
    end_before c.args.n _ _ _ holds (omega (arith, c.if-n-eq0.false)) c.requires
