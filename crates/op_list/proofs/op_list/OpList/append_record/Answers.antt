use Rattle.std.proofs.Common.{◌≡◌, ◌+◌, ◌++◌, ◌∷◌, [], length, ap, ◌∙◌, arith, rules}
use Rattle.op_model.specs.declared.op.Op.{Op}
use Rattle.op_list.specs.Held.{HoldsRecords, IsRecord}
use Rattle.op_list.proofs.Holding.{shown, records_length, held_is, is_held}
use Rattle.op_list.proofs.OneRecord.{holds_record}
use Rattle.op_list.proofs.op_list.OpList.append_record.Goals as goal

grown : (c : goal.After-push_reserved) (op : Op) → IsRecord c.args.bytes.now op
    → HoldsRecords c.extend_from_slice.new.self.items c.push_reserved.new.self.items (c.args.self.now ++ op ∷ [])
grown c op is =
    let holds = shown _ _ c.args.self.now c.self.invariant c.self.view_is in
    holds_record _ _ _ _ _ (c.len.result + length c.args.bytes.now) _ op holds is c.requires.few (search rules) (search rules) (search rules)

pub overflow_cast-end : goal.overflow_cast-end
overflow_cast-end c =
    let holds = shown _ _ c.args.self.now c.self.invariant c.self.view_is in
    omega (arith, c.requires.few, records_length _ _ _ holds, c.len.ensures)

pub invariant_of-self-2 : goal.invariant_of-self-2
invariant_of-self-2 c = is_held _ _ _ (grown c c.requires.one.0 c.requires.one.1)

pub returns-clause-ok : goal.returns-clause-ok
returns-clause-ok c = λ op is. held_is _ _ _ (grown c op is)
