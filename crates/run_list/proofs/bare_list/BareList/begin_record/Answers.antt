use Rattle.std.proofs.Common.{◌≡◌, true, ◌++◌, ◌∷◌, [], arith, rules}
use Rattle.op_model.specs.declared.op.Op.{Op}
use Rattle.op_list.specs.Held.{IsRecord}
use Rattle.run_list.specs.Runs.{HoldsRuns}
use Rattle.run_list.proofs.Holding.{holds_first, marks_long}
use Rattle.run_list.proofs.Unrolling.{shown, are_runs, held_is}
use Rattle.run_list.proofs.bare_list.BareList.begin_record.Goals as goal

pub overflow_cast-at : goal.overflow_cast-at
overflow_cast-at c =
    let holds = shown _ _ _ c.args.self.now c.self.invariant c.self.view_is in
    let room : c.has_room_for.result ≡ true = cc in
    omega (arith, marks_long _ _ _ _ holds, c.has_room_for.ensures.few room, c.len-at.ensures)

grown : (c : goal.After-push_reserved-2) (op : Op) → IsRecord c.args.bytes.now op
    → HoldsRuns c.push_reserved-2.new.self.items c.append_record.new.self c.push_reserved.new.self.items (c.args.self.now ++ op ∷ [])
grown c op is =
    let room : c.has_room_for.result ≡ true = cc in
    let holds = shown _ _ _ c.args.self.now c.self.invariant c.self.view_is in
    holds_first _ _ _ _ op c.push_reserved-2.new.self.items c.append_record.new.self c.push_reserved.new.self.items holds is.fits (c.requires.begins op is) (search rules)
    (c.in_ok-append_record.ensures.ok op is) (search rules) (omega (arith, marks_long _ _ _ _ holds, c.has_room_for.ensures.few room))

pub invariant_of-self-2 : goal.invariant_of-self-2
invariant_of-self-2 c = are_runs _ _ _ _ (grown c c.requires.one.0 c.requires.one.1)

pub returns-clause-ok : goal.returns-clause-ok
returns-clause-ok c = λ op is. held_is _ _ _ _ (grown c op is)
