use Rattle.std.proofs.Common.{◌≡◌, true, arith, rules}
use Rattle.run_list.proofs.Holding.{holds_first, marks_long}
use Rattle.run_list.proofs.Unrolling.{shown, are_runs, held_is}
use Rattle.run_list.proofs.bare_list.BareList.begin_run.Goals as goal

pub overflow_cast-at : goal.overflow_cast-at
overflow_cast-at c =
    let holds = shown _ _ _ c.args.self.now c.self.invariant c.self.view_is in
    let room : c.has_room_for.result ≡ true = cc in
    omega (arith, marks_long _ _ _ _ holds, c.has_room_for.ensures.few room, c.len-at.ensures)

pub invariant_of-self-2 : goal.invariant_of-self-2
invariant_of-self-2 c =
    let holds = shown _ _ _ c.args.self.now c.self.invariant c.self.view_is in
    are_runs _ _ _ _ (holds_first _ _ _ _ c.args.op.now c.push_reserved-2.new.self.items c.append.new.self c.push_reserved.new.self.items holds c.every_op_has_a_spelling.ensures c.requires (search rules) (search rules) (search rules)
    (omega (arith, marks_long _ _ _ _ holds)))

pub returns-clause-ok : goal.returns-clause-ok
returns-clause-ok c =
    let holds = shown _ _ _ c.args.self.now c.self.invariant c.self.view_is in
    held_is _ _ _ _ (holds_first _ _ _ _ c.args.op.now c.push_reserved-2.new.self.items c.append.new.self c.push_reserved.new.self.items holds c.every_op_has_a_spelling.ensures c.requires (search rules) (search rules) (search rules)
    (omega (arith, marks_long _ _ _ _ holds)))
