use Rattle.std.proofs.Common.{◌∙◌}
use Rattle.run_list.proofs.Telling.{shown, bare_long}
use Rattle.run_list.proofs.run_list.RunList.len.Goals as goal

pub returns : goal.returns
returns c = c.len.ensures ∙ bare_long _ _ _ (shown _ _ c.args.self.now c.self.invariant c.self.view_is)
