use Rattle.replica_core.specs.Docs.{doc_number}
use Rattle.replica_core.proofs.RevLemmas.{few_revs}
use Rattle.replica_core.proofs.docs.count.Goals as goal

pub returns : goal.returns
returns c = c.rev.ensures c.args.list.now c.requires.stands (few_revs c.args.list.now (doc_number c.args.doc.now) c.requires.closed)
