use Rattle.std.proofs.Common.{arith}
use Rattle.op_list.proofs.Holding.{shown, ends_count, front_length, records_length, held_front, held_is, is_held}
use Rattle.op_list.proofs.op_slice.OpSlice.front.Goals as goal

pub split_at-requires : goal.split_at-requires
split_at-requires c =
    let holds = shown _ _ c.args.self.now c.self.invariant c.self.view_is in
    omega
    (arith, c.start.ensures, front_length c.args.n c.args.self.now, records_length _ _ _ holds)

pub split_at-requires-2 : goal.split_at-requires-2
split_at-requires-2 c =
    let holds = shown _ _ c.args.self.now c.self.invariant c.self.view_is in
    omega (arith, ends_count _ _ _ holds, c.requires)

pub invariant_of-result : goal.invariant_of-result
invariant_of-result c =
    let holds = shown _ _ c.args.self.now c.self.invariant c.self.view_is in
    let records = c.split_at.ensures.front in
    let ends = c.split_at-2.ensures.front in
    is_held _ _ _
    (held_front c.args.n c.start.result _ _ _ _ _ holds c.start.ensures records ends)

pub returns : goal.returns
returns c =
    let holds = shown _ _ c.args.self.now c.self.invariant c.self.view_is in
    let records = c.split_at.ensures.front in
    let ends = c.split_at-2.ensures.front in
    held_is _ _ _
    (held_front c.args.n c.start.result _ _ _ _ _ holds c.start.ensures records ends)
