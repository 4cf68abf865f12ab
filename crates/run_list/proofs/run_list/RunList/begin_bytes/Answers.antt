use Rattle.std.proofs.Common.{◌++◌, ◌∷◌, [], sym, ap, ◌∙◌}
use Rattle.op_model.specs.declared.op.Op.{Op}
use Rattle.op_list.specs.Held.{IsRecord}
use Rattle.run_list.specs.Told.{token_number, HoldsTold}
use Rattle.run_list.proofs.Telling.{shown, are_told, told_is, more_told, same_bare}
use Rattle.run_list.proofs.run_list.RunList.begin_bytes.Goals as goal

grown : (c : goal.In-Ok) (op : Op) → IsRecord c.args.bytes.now op → HoldsTold c.begin_record.new.self c.push.new.self (c.args.self.now ++ op ∷ [])
grown c op is =
    let holds = shown _ _ c.args.self.now c.self.invariant c.self.view_is in
    more_told _ _ _ op _ _ holds is.fits (c.in-Ok.ensures.ok op is ∙ ap (λ o. c.self.inside.bare ++ o ∷ []) (same_bare op (c.requires.none op is)))
    (c.in_ok-push.ensures.ok ∙ ap (λ t. c.self.inside.tokens ++ token_number t ∷ []) (sym (c.requires.none op is)))

pub invariant_of-self-in-Ok : goal.invariant_of-self-in-Ok
invariant_of-self-in-Ok c = are_told _ _ _ (grown c c.requires.one.0 c.requires.one.1)

pub returns-in-Ok-clause-ok : goal.returns-in-Ok-clause-ok
returns-in-Ok-clause-ok c = λ op is. told_is _ _ _ (grown c op is)
