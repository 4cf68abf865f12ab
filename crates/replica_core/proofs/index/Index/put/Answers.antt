use Rattle.std.proofs.Common.{◌∙◌, ◌+◌, ◌++◌, ◌∷◌, [], ap, sym}
use Rattle.replica_core.specs.Makers.{places_of}
use Rattle.replica_core.proofs.IndexLemmas.{index_push}
use Rattle.replica_core.proofs.index.Index.put.Goals as goal

pub returns-clause-index : goal.returns-clause-index
returns-clause-index c = λ ops is long.
    index_push c.args.self.now _ c.args.op.now ops
    (rw c.replica.ensures at c.put.ensures.own ∙ ap (λ n. places_of c.args.self.now.makers.items c.args.op.now.id.replica ++ n ∷ []) (sym long))
    (rw c.replica.ensures at c.put.ensures.others) (rw c.counter.ensures.value at c.max-self.ensures) (ap (λ n. c.args.self.now.stream + n) c.record_length.ensures.value) is
