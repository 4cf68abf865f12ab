use Rattle.serve_threads.proofs.TurnLemmas.{still_holds}
use Rattle.serve_threads.proofs.laws.what_was_settled_stays_over_turns.Goals as goal

pub returns : goal.returns
returns g c = λ old f disk back file it told later last left.
    still_holds g.D.DiskFacts old f disk back file (λ disk told. g.met.D.Disk.lawful disk told) it told later last left
