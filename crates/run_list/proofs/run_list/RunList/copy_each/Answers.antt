use Rattle.std.proofs.Common.{◌++◌, drop, ap, ◌∙◌}
use Rattle.run_list.specs.Told.{HoldsTold}
use Rattle.run_list.proofs.Telling.{shown, are_told, told_is, front_held, joined_told}
use Rattle.run_list.proofs.run_list.RunList.copy_each.Goals as goal

grown : (c : goal.In-Ok) → HoldsTold c.copy_each.new.self c.extend_from.new.self (c.args.self.now ++ drop c.args.n c.args.ops.now)
grown c =
    let held = shown _ _ c.args.self.now c.self.invariant c.self.view_is in
    let holds = shown _ _ c.list.result.now c.behind-ops.invariant c.behind-ops.view_is in
    let front = front_held _ _ c.list.result.now c.args.ops.now c.len.result holds c.len.ensures c.list.ensures.front in
    joined_told _ _ _ c.args.n c.args.ops.now _ _ held c.kept.ensures.fits (c.in-Ok.ensures.ok ∙ ap (λ ops. c.self.inside.bare ++ drop c.args.n ops) c.bare.ensures)
    (c.in_ok-extend_from.ensures.ok ∙ ap (λ ns. c.self.inside.tokens ++ drop c.args.n ns) front.tokens_so)

pub invariant_of-self-in-Ok : goal.invariant_of-self-in-Ok
invariant_of-self-in-Ok c = are_told _ _ _ (grown c)

pub returns-in-Ok-clause-ok : goal.returns-in-Ok-clause-ok
returns-in-Ok-clause-ok c = told_is _ _ _ (grown c)
