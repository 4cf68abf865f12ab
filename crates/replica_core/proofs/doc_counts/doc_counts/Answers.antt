use Rattle.std.proofs.Common.{◌++◌, ◌∷◌, [], ap, ◌∙◌}
use Rattle.replica_core.proofs.DocCountLemmas.{all_so_far, more_counted}
use Rattle.replica_core.proofs.DocLemmas.{stands_at}
use Rattle.replica_core.proofs.doc_counts.doc_counts.Goals as goal

pub counts_of-requires-clause-stands : goal.counts_of-requires-clause-stands
counts_of-requires-clause-stands c =
    stands_at c.args.docs.now c.loop-doc.doc-index c.doc-item.result c.args.list.now c.requires.docs.stand c.loop-doc-test.true c.doc-item.is

pub loop-doc-preserved : goal.loop-doc-preserved
loop-doc-preserved c =
    c.in_ok-push.ensures.items ∙ ap (λ x. c.loop-doc.counts.items ++ x ∷ []) c.in_ok-counts_of.ensures
    ∙ more_counted c.args.list.now c.args.docs.now c.loop-doc.doc-index c.doc-item.result c.loop-doc.counts.items c.loop-doc-test.true c.doc-item.is
    c.loop-doc.invariant

pub returns : goal.returns
returns c =
    all_so_far c.args.list.now c.args.docs.now c.loop-doc.doc-index c.loop-doc.counts.items c.loop-doc-test.false c.requires.docs c.loop-doc.invariant
