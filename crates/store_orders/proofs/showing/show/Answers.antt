-- The list that was opened is that of the image.
use Rattle.store_orders.specs.Shown.{said_document}
use Rattle.store_orders.proofs.ShowingLemmas.{shows}
use Rattle.store_orders.proofs.showing.show.Goals as goal

pub returns-in-Ok : goal.returns-in-Ok
returns-in-Ok g c =
    shows g.D.DiskFacts (λ list. said_document list c.args.doc) c.args.disk c.into_disk.result c.document_lines.result _ _ _
    (rw c.in-Ok.field-0-is at c.in-Ok.ensures.image)
    (rw c.into_disk.ensures (rw c.in-Ok.field-0-is at c.in-Ok.ensures.looks))
    c.document_lines.ensures.ok c.document_lines.ensures.err
