use Rattle.replica_core.proofs.RepeatLemmas.{remove_told}
use Rattle.replica_core.specs.Docs.{doc_number}
use Rattle.replica_core.proofs.merging.removes_again.Goals as goal

pub returns-in-Remove : goal.returns-in-Remove
returns-in-Remove c = λ ops stands number follows.
    remove_told ops c.args.op.now c.in-Remove.target (doc_number c.args.doc.now) c.is_removed.result follows number c.in-Remove.is
    (λ character. c.is_removed.ensures ops character stands)
