use Rattle.std.proofs.Common.{◌≡◌, map, take}
use Rattle.replica_core.proofs.DocCountLemmas.{counted_doc}
use Rattle.replica_core.proofs.doc_counts.doc_counts.Given as goal

-- the documents so far are counted
abbrev pub invariant-loop-doc : goal.invariant-loop-doc
invariant-loop-doc l = l.counts.items ≡ map (counted_doc l.list) (take l.doc-index l.docs)
