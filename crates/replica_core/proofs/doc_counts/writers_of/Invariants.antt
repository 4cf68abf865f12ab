use Rattle.std.proofs.Common.{◌≡◌, ◌++◌, drop, filter, map}
use Rattle.list_counts.specs.Documents.{wrote}
use Rattle.replica_core.specs.Docs.{doc_number}
use Rattle.replica_core.proofs.doc_counts.writers_of.Given as goal

-- those that are found, and those that will be among the entries that are left
abbrev pub invariant-loop-entry : goal.invariant-loop-entry
invariant-loop-entry l =
    l.found.items ++ filter (wrote l.list (doc_number l.doc)) (map (λ e. e.0) (drop l.entry-index l.entry-items))
    ≡ filter (wrote l.list (doc_number l.doc)) (map (λ e. e.0) l.clock)
