use Rattle.replica_core.proofs.DocLemmas.{docs_up}
use Rattle.replica_core.proofs.replica.Replica.decide_edit.Goals as goal

pub place-place-requires : goal.place-place-requires
place-place-requires c = rw c.deref.ensures.value (docs_up c.self.inside.log.docs.items c.self.inside.log.list c.self.invariant.docs)
