use Rattle.std.proofs.Common.{sym}
use Rattle.session_threads.proofs.HeldTokens.{once_acted, first_holds, forever_holds, again_answered}
use Rattle.session_threads.proofs.laws.edits_act_once.Goals as goal

pub returns-clause-once : goal.returns-clause-once
returns-clause-once g c = rw (sym c.desk.view_is)
    (once_acted g.D.DiskFacts (λ disk told. g.met.D.Disk.lawful disk told) _ (record { image = c.survivors.ensures.image; settled = c.survivors.ensures.settled }))

pub returns-clause-answered : goal.returns-clause-answered
returns-clause-answered g c = rw (sym c.desk.view_is)
    (first_holds g.D.DiskFacts _ (record { image = c.survivors.ensures.image; settled = c.survivors.ensures.settled }))

pub returns-clause-kept : goal.returns-clause-kept
returns-clause-kept g c = forever_holds g.D.DiskFacts (λ disk told. g.met.D.Disk.lawful disk told)

pub returns-clause-again : goal.returns-clause-again
returns-clause-again g c = again_answered g.D.DiskFacts
