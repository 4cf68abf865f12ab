use Rattle.std.proofs.Common.{◌≡◌, get_or, ap, ◌∙◌, length, arith}
use Rattle.run_list.specs.Told.{with_token}
use Rattle.run_list.proofs.Telling.{shown, bare_long, tokens_long, told_at}
use Rattle.run_list.proofs.run_list.RunList.get.Goals as goal

pub get-requires : goal.get-requires
get-requires c = omega (arith, c.requires, ap length c.as_slice.ensures, bare_long _ _ _ (shown _ _ c.args.self.now c.self.invariant c.self.view_is))

pub get-requires-2 : goal.get-requires-2
get-requires-2 c = omega (arith, c.requires, tokens_long _ _ _ (shown _ _ c.args.self.now c.self.invariant c.self.view_is))

pub returns : goal.returns
returns c =
    let holds = shown _ _ c.args.self.now c.self.invariant c.self.view_is in
    let bare : c.in_ok-op.op ≡ get_or c.self.inside.bare c.args.i c.in_ok-op.op = c.in_ok-op.ensures ∙ ap (λ ops. get_or ops c.args.i c.in_ok-op.op) c.as_slice.ensures in
    ap (with_token c.in_ok-op.op) c.token_of-op.ensures
    ∙ told_at _ _ _ c.args.i c.get-2.result c.in_ok-op.op (with_token c.in_ok-op.op c.token_of-op.result) holds c.requires bare c.get-2.ensures
