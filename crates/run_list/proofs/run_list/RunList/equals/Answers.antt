use Rattle.std.proofs.Common.{sym, ap, ◌∙◌, rules}
use Rattle.run_list.specs.Told.{tokens_of}
use Rattle.run_list.proofs.Telling.{shown, front_held, same_told}
use Rattle.run_list.proofs.run_list.RunList.equals.Goals as goal

pub returns-then-equals : goal.returns-then-equals
returns-then-equals c =
    let held = shown _ _ c.args.self.now c.self.invariant c.self.view_is in
    let holds = shown _ _ c.list.result.now c.behind-ops.invariant c.behind-ops.view_is in
    let front = front_held _ _ c.list.result.now c.args.ops.now c.len.result holds c.len.ensures c.list.ensures.front in (
      λ equal. same_told _ _ _ _ _ _ held front (c.equals.ensures.0 (search rules) ∙ c.bare.ensures ∙ sym front.bare_so) (c.is_front.ensures.0 equal),
      λ same. c.is_front.ensures.1 (held.tokens_so ∙ ap tokens_of same ∙ sym front.tokens_so),
    )
