use Rattle.locked_replica.proofs.Recovering.{crash_recovered}
use Rattle.locked_replica.proofs.laws.what_recovers_is_what_a_crash_leaves.Goals as goal

pub returns : goal.returns
returns g c = λ hub file recovered. crash_recovered hub file recovered
