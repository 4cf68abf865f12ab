use Rattle.std.proofs.Common.{sym}
use Rattle.session_threads.proofs.AnsweredStays.{answered_stay}
use Rattle.session_threads.proofs.laws.answered_edits_stay.Goals as goal

pub returns : goal.returns
returns g c = rw (sym c.desk.view_is)
    (answered_stay g.D.DiskFacts (λ disk told. g.met.D.Disk.lawful disk told) _ (record { image = c.survivors.ensures.image; settled = c.survivors.ensures.settled }))
