-- The list that was opened is that of the image.
use Rattle.op_model.specs.Spans.{spans}
use Rattle.span_export.specs.Exported.{exported}
use Rattle.store_orders.proofs.ShowingLemmas.{shows}
use Rattle.store_orders.proofs.showing.show_in.Goals as goal

pub returns-in-Ok : goal.returns-in-Ok
returns-in-Ok g c =
    shows g.D.DiskFacts (λ list. exported c.args.form (spans list c.args.doc)) c.args.disk c.into_disk.result c.document_in.result _ _ _
    (rw c.in-Ok.field-0-is at c.in-Ok.ensures.image)
    (rw c.into_disk.ensures (rw c.in-Ok.field-0-is at c.in-Ok.ensures.looks))
    c.document_in.ensures.ok c.document_in.ensures.err
