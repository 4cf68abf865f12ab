use Rattle.std.proofs.Common.{sym}
use Rattle.session_threads.proofs.SessionRuns.{exchanges_go, cut_off_goes}
use Rattle.session_threads.proofs.laws.a_session_is_a_run.Goals as goal

pub returns-clause-answered : goal.returns-clause-answered
returns-clause-answered g c = rw (sym c.desk.view_is) (λ lines text new it.
    let (events, calls) = exchanges_go g.D.DiskFacts lines _ new text it in (events, c.calls_are_a_run.ensures events new.hub calls))

pub returns-clause-cut_off : goal.returns-clause-cut_off
returns-clause-cut_off g c = rw (sym c.desk.view_is) (λ lines text new it.
    let (events, calls) = cut_off_goes g.D.DiskFacts lines _ new text it in (events, c.calls_are_a_run.ensures events new.hub calls))
