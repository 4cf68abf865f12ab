use Rattle.std.proofs.Common.{arith}
use Rattle.run_list.proofs.Telling.{shown, bare_long}
use Rattle.run_list.proofs.run_list.RunList.kept.Goals as goal

pub returns-clause-fits : goal.returns-clause-fits
returns-clause-fits c = (shown _ _ c.args.self.now c.self.invariant c.self.view_is).fits

pub returns-clause-few : goal.returns-clause-few
returns-clause-few c = omega (arith, c.kept.ensures.few, bare_long _ _ _ (shown _ _ c.args.self.now c.self.invariant c.self.view_is))
