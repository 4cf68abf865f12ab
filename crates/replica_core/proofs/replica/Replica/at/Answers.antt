use Rattle.replica_core.proofs.DocLemmas.{docs_up}
use Rattle.replica_core.proofs.replica.Replica.at.Goals as goal

pub find-requires-clause-rising : goal.find-requires-clause-rising
find-requires-clause-rising c = rw c.deref.ensures.value (docs_up c.self.inside.log.docs.items c.self.inside.log.list c.self.invariant.docs)
