use Rattle.std.proofs.Common.{◌∙◌, filter, map, ap, sym, ℕ}
use Rattle.list_counts.specs.Documents.{wrote}
use Rattle.replica_core.specs.Docs.{doc_number}
use Rattle.replica_core.proofs.DocCountLemmas.{few_replicas, more_writer, no_writer, writers_end}
use Rattle.replica_core.proofs.doc_counts.writers_of.Goals as goal
use Rattle.replica_core.proofs.doc_counts.writers_of.Goals.{then-was_written_by+in_ok-push, else-was_written_by}

pub loop-entry-init : goal.loop-entry-init
loop-entry-init c =
    rw c.new-found.ensures.items
    (ap (λ es. filter (wrote c.args.list.now (doc_number c.args.doc.now)) (map (λ (e : ℕ × ℕ). e.0) es)) c.entries-entry-items.ensures.same)

pub loop-entry-preserved : goal.loop-entry-preserved
loop-entry-preserved c =
    let doc = doc_number c.args.doc.now in
    let entries = c.entries-entry-items.result.now in
    let wrote_so = c.was_written_by.ensures c.args.list.now c.requires.stands (few_replicas c.args.list.now c.requires.closed) in
    elim c.if-was_written_by.branch [
      | then-was_written_by+in_ok-push w ↦ rw (w.found-is, w.in_ok-push.ensures.items)
          (more_writer (wrote c.args.list.now doc) c.loop-entry.found.items _ entries c.loop-entry.entry-index c.entry-item.result
          c.loop-entry-test.true c.entry-item.is c.loop-entry.invariant (sym wrote_so ∙ w.if-was_written_by.true))
      | else-was_written_by w ↦ rw w.found-is
          (no_writer (wrote c.args.list.now doc) c.loop-entry.found.items _ entries c.loop-entry.entry-index c.entry-item.result
          c.loop-entry-test.true c.entry-item.is c.loop-entry.invariant (sym wrote_so ∙ w.if-was_written_by.false))
    ]

pub returns : goal.returns
returns c =
    let doc = doc_number c.args.doc.now in
    writers_end (wrote c.args.list.now doc) c.loop-entry.found.items _ c.entries-entry-items.result.now c.loop-entry.entry-index
    c.loop-entry-test.false c.loop-entry.invariant
    ∙ ap (λ es. filter (wrote c.args.list.now doc) (map (λ (e : ℕ × ℕ). e.0) es)) c.requires.clock
