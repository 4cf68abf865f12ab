use Rattle.daemon_asking.proofs.PassingLemmas.{passes_more}
use Rattle.daemon_asking.proofs.asking.ask_all.Goals as goal

pub returns-in-Ok : goal.returns-in-Ok
returns-in-Ok g c =
    passes_more _ _ _ _ _ _ (passes_more _ _ _ _ _ _ c.loop.invariant c.in_ok-pass_on.ensures) c.in_ok-pass_all-in-Ok.ensures

pub loop-preserved : goal.loop-preserved
loop-preserved g c = passes_more _ _ _ _ _ _ c.loop.invariant c.in_ok-pass_on.ensures
