use Rattle.session_threads.proofs.KnownEdits.{settled_answered}
use Rattle.session_threads.proofs.laws.settled_edits_are_answered.Goals as goal

pub returns : goal.returns
returns g c = λ e t answer new found settled it.
    let (said, nothing) = settled_answered g.D.DiskFacts c.args.desk.now new e t answer found settled it in (said, nothing.0)
