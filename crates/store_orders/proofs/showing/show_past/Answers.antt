-- The list that was opened is that of the image.
use Rattle.store_orders.proofs.ShowingLemmas.{shows_past}
use Rattle.store_orders.proofs.showing.show_past.Goals as goal

pub returns-in-Ok : goal.returns-in-Ok
returns-in-Ok g c =
    shows_past g.D.DiskFacts c.args.doc c.args.rev c.args.form c.args.disk c.into_disk.result c.document_past.result _ _ _
    (rw c.in-Ok.field-0-is at c.in-Ok.ensures.image)
    (rw c.into_disk.ensures (rw c.in-Ok.field-0-is at c.in-Ok.ensures.looks))
    c.document_past.ensures.ok c.document_past.ensures.err
