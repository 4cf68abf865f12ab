use Rattle.std.proofs.Common.{get_or, ap, ◌∙◌}
use Rattle.op_list.specs.Heads.{heads}
use Rattle.run_list.proofs.Telling.{shown, same_heads}
use Rattle.run_list.proofs.run_list.RunList.head.Goals as goal

pub returns : goal.returns
returns c =
    let holds = shown _ _ c.args.self.now c.self.invariant c.self.view_is in
    c.head.ensures
    ∙ ap (λ hs. get_or hs c.args.i c.head.result) (ap heads (c.as_slice.ensures ∙ holds.bare_so) ∙ same_heads c.args.self.now)
