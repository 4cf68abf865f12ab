use Rattle.std.proofs.Common.{◌≡◌, true, false, ap, ◌∙◌}
use Rattle.op_model.specs.Machine.{is_under_way}
use Rattle.session_threads.proofs.FewerLemmas.{fewer_left}
use Rattle.session_threads.proofs.GoLemmas.{gone_through, gone_on, gone_wrong}
use Rattle.session_threads.proofs.committing.go_through.Goals as goal

pub returns-in-Ok : goal.returns-in-Ok
returns-in-Ok g c =
    gone_through g.D.DiskFacts _ _ _ c.loop-phase.invariant.0 c.loop-phase.invariant.1 c.in-Ok.phase
    (c.is_last.ensures.0 c.if-is_last.true) c.in-Ok.ensures.call

pub loop-phase-preserved : goal.loop-phase-preserved
loop-phase-preserved g c =
    gone_on g.D.DiskFacts _ _ _ c.loop-phase.invariant.0 c.loop-phase.invariant.1 c.in-Ok.phase
    (λ last. let yes : c.is_last.result ≡ true = c.is_last.ensures.1 last in let no : c.is_last.result ≡ false = c.if-is_last.false in cc)
    c.requires.under_way c.in-Ok.ensures.call

pub returns-in-Err : goal.returns-in-Err
returns-in-Err g c =
    gone_wrong g.D.DiskFacts _ _ _ c.loop-phase.invariant.0 c.loop-phase.invariant.1 _ c.requires.works c.in-Err.ensures.call

pub loop-phase-smaller : goal.loop-phase-smaller
loop-phase-smaller g c =
    fewer_left g.D.DiskFacts c.loop-phase.hub c.device_step.new.self (ap (λ s. is_under_way s.commit) c.loop-phase.invariant.1 ∙ c.requires.under_way)
    c.in-Ok.phase c.in-Ok.ensures.call
