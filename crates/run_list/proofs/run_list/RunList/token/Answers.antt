use Rattle.std.proofs.Common.{◌∙◌, arith}
use Rattle.run_list.proofs.Telling.{shown, tokens_long, told_token_at}
use Rattle.run_list.proofs.run_list.RunList.token.Goals as goal

pub get-requires : goal.get-requires
get-requires c = omega (arith, c.requires, tokens_long _ _ _ (shown _ _ c.args.self.now c.self.invariant c.self.view_is))

pub returns : goal.returns
returns c =
    let holds = shown _ _ c.args.self.now c.self.invariant c.self.view_is in
    c.token_of.ensures ∙ told_token_at _ _ _ c.args.i c.get.result c.token_of.result holds c.requires c.get.ensures
