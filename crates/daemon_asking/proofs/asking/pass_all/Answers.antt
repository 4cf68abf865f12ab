use Rattle.daemon_asking.proofs.PassingLemmas.{passes_more, passes_none}
use Rattle.daemon_asking.proofs.asking.pass_all.Goals as goal

pub loop-init : goal.loop-init
loop-init g c = passes_none _ _

pub loop-preserved : goal.loop-preserved
loop-preserved g c = passes_more _ _ _ _ _ _ c.loop.invariant c.in_ok-pass_on.ensures

pub returns-in-Nothing : goal.returns-in-Nothing
returns-in-Nothing g c = passes_more _ _ _ _ _ _ c.loop.invariant c.in_ok-pass_on.ensures
