use Rattle.std.proofs.Common.{ap, ◌∙◌, sym, arith}
use Rattle.std.specs.Prelude.{take}
use Rattle.list_counts.specs.Documents.{with_all, with_writer}
use Rattle.list_counts.proofs.WriterLemmas.{with_all-more}
use Rattle.list_counts.proofs.writers.Writers.put_all.Goals as goal

pub loop-op-preserved : goal.loop-op-preserved
loop-op-preserved c =
    let op = c.op-item.result in
    c.put.ensures ∙ ap (λ r. with_writer r c.loop-op.self) c.replica.ensures ∙ ap (with_writer op.id.replica) c.loop-op.invariant
    ∙ sym (with_all-more c.args.self.now c.args.ops.now c.loop-op.op-index op (omega arith) c.op-item.is)
