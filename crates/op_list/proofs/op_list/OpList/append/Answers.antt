use Rattle.std.proofs.Common.{◌≡◌, ◌++◌, length, ap, ◌∙◌, arith}
use Rattle.op_list.specs.Held.{ends_of, HoldsRecords}
use Rattle.op_list.proofs.Holding.{shown, records_length, held_more, held_is, is_held}
use Rattle.op_list.proofs.op_list.OpList.append.Goals as goal

pub push_ends-requires-clause-within : goal.push_ends-requires-clause-within
push_ends-requires-clause-within c =
    let holds = shown _ _ c.args.self.now c.self.invariant c.self.view_is in
    omega
    (arith, c.len-start.ensures, c.self.inside.records.ok.0, records_length _ _ _ holds, c.requires)

grown : (c : goal.After-push_ends)
    → HoldsRecords c.put_ops.new.out.items c.push_ends.new.ends.items (c.args.self.now ++ c.args.ops.now)
grown c =
    let holds = shown _ _ c.args.self.now c.self.invariant c.self.view_is in
    let start : c.len-start.result ≡ length c.self.inside.records.items =
    omega (arith, c.len-start.ensures, c.self.inside.records.ok.0) in
    let ends : c.push_ends.new.ends.items ≡ c.self.inside.ends.items ++ ends_of
    (length c.self.inside.records.items) c.args.ops.now =
    c.push_ends.ensures
    ∙ ap (λ e. e ++ ends_of c.len-start.result c.args.ops.now) c.reserve.ensures.items
    ∙ ap (λ s. c.self.inside.ends.items ++ ends_of s c.args.ops.now) start in
    held_more _ _ _ _ _ _ holds c.in_ok-put_ops.ensures.fits c.requires c.in_ok-put_ops.ensures.ok
    ends

pub invariant_of-self-2 : goal.invariant_of-self-2
invariant_of-self-2 c = is_held _ _ _ (grown c)

pub returns-clause-ok : goal.returns-clause-ok
returns-clause-ok c = held_is _ _ _ (grown c)
