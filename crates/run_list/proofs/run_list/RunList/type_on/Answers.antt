use Rattle.std.proofs.Common.{◌++◌, ◌∷◌, [], ap, ◌∙◌}
use Rattle.op_model.specs.declared.op.Op.{Op}
use Rattle.run_list.specs.Told.{bare_of, token_number, HoldsTold, IsTypedOn}
use Rattle.run_list.proofs.Telling.{shown, are_told, told_is, more_told}
use Rattle.run_list.proofs.Continuing.{typed_bare}
use Rattle.run_list.proofs.run_list.RunList.type_on.Goals as goal

pub type_on-requires : goal.type_on-requires
type_on-requires c =
    let holds = shown _ _ c.args.self.now c.self.invariant c.self.view_is in
    (bare_of c.requires.0, typed_bare _ _ _ c.args.value c.args.token c.requires.0 holds c.requires.1)

grown : (c : goal.In-Ok) (op : Op) → IsTypedOn c.args.self.now c.args.value c.args.token op → HoldsTold c.type_on.new.self c.push.new.self (c.args.self.now ++ op ∷ [])
grown c op typed =
    let holds = shown _ _ c.args.self.now c.self.invariant c.self.view_is in
    more_told _ _ _ op _ _ holds typed.fits (c.in-Ok.ensures.ok (bare_of op) (typed_bare _ _ _ c.args.value c.args.token op holds typed))
    (c.in_ok-push.ensures.ok ∙ ap (λ n. c.self.inside.tokens ++ n ∷ []) (c.number_of.ensures.value ∙ ap token_number typed.token_so))

pub invariant_of-self-in-Ok : goal.invariant_of-self-in-Ok
invariant_of-self-in-Ok c = are_told _ _ _ (grown c c.requires.0 c.requires.1)

pub returns-in-Ok-clause-ok : goal.returns-in-Ok-clause-ok
returns-in-Ok-clause-ok c = λ op typed. told_is _ _ _ (grown c op typed)
