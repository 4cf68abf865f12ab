use Rattle.std.proofs.Common.{◌≡◌, ◌-◌, suc, length, get_or, ap, ◌∙◌, arith}
use Rattle.run_list.proofs.Telling.{shown}
use Rattle.run_list.proofs.Continuing.{last_continues}
use Rattle.run_list.proofs.run_list.RunList.has_next.Goals as goal

pub returns : goal.returns
returns c =
    let holds = shown _ _ c.args.self.now c.self.invariant c.self.view_is in
    let long : length c.self.inside.bare ≡ suc (c.len-len.result - 1) = omega (arith, c.len-len.ensures, c.if-len-eq0.false) in
    let last : c.in_ok-last.last ≡ get_or c.self.inside.bare (c.len-len.result - 1) c.in_ok-last.last =
    c.in_ok-last.ensures ∙ ap (λ ops. get_or ops (c.len-len.result - 1) c.in_ok-last.last) c.as_slice.ensures in
    c.is_next_bare.ensures ∙ last_continues _ _ _ (c.len-len.result - 1) c.in_ok-last.last c.args.op.now holds long last
