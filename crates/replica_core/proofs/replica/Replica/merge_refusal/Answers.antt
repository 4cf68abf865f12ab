use Rattle.replica_core.proofs.DocLemmas.{docs_up}
use Rattle.replica_core.proofs.replica.Replica.merge_refusal.Goals as goal

pub place-requires : goal.place-requires
place-requires c = rw c.deref-2.ensures.value (docs_up c.self.inside.log.docs.items c.self.inside.log.list c.self.invariant.docs)
