-- The list that was opened is that of the image.
use Rattle.store_orders.specs.Shown.{said_history}
use Rattle.store_orders.proofs.ShowingLemmas.{shows}
use Rattle.store_orders.proofs.history.show_versions.Goals as goal

pub returns-in-Ok : goal.returns-in-Ok
returns-in-Ok g c =
    shows g.D.DiskFacts (λ list. said_history list c.args.doc c.args.every) c.args.disk c.into_disk.result c.versions_line.result _ _ _
    (rw c.in-Ok.field-0-is at c.in-Ok.ensures.image)
    (rw c.into_disk.ensures (rw c.in-Ok.field-0-is at c.in-Ok.ensures.looks))
    c.versions_line.ensures.ok c.versions_line.ensures.err
