use Rattle.std.proofs.Common.{◌++◌, ◌∷◌, [], List, ap, subst, ◌∙◌}
use Rattle.run_list.specs.Told.{with_token, HoldsTold}
use Rattle.run_list.proofs.Telling.{shown, are_told, told_is, more_told, told_fits, same_bare, last_fits}
use Rattle.run_list.proofs.run_list.RunList.begin.Goals as goal
use Rattle.run_list.proofs.run_list.RunList.begin.Goals.{After-kept}
use Rattle.op_model.specs.declared.op.Op.{Op}
use Rattle.change_codec.specs.Stream.{AreOperations}

grown : (c : After-kept) → HoldsTold c.begin_run.new.self c.push.new.self (c.args.self.now ++ with_token c.args.bare.now c.args.token ∷ [])
grown c =
    let holds = shown _ _ c.args.self.now c.self.invariant c.self.view_is in
    let fits = last_fits c.self.inside.bare c.args.bare.now (subst (λ (ops : List Op). AreOperations ops) c.in-Ok.ensures.ok c.kept.ensures.fits) in
    more_told _ _ _ (with_token c.args.bare.now c.args.token) _ _ holds (told_fits c.args.bare.now c.args.token fits c.number_of.ensures.fits)
    (c.in-Ok.ensures.ok ∙ ap (λ op. c.self.inside.bare ++ op ∷ []) (same_bare c.args.bare.now c.requires.none))
    (c.in_ok-push.ensures.ok ∙ ap (λ n. c.self.inside.tokens ++ n ∷ []) c.number_of.ensures.value)

pub invariant_of-self-in-Ok : goal.invariant_of-self-in-Ok
invariant_of-self-in-Ok c = are_told _ _ _ (grown c)

pub returns-in-Ok-clause-ok : goal.returns-in-Ok-clause-ok
returns-in-Ok-clause-ok c = told_is _ _ _ (grown c)
