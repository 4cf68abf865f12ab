-- The list that was opened is that of the image.
use Rattle.file_listing.specs.Listing.{said_listing}
use Rattle.store_orders.proofs.ShowingLemmas.{shows}
use Rattle.store_orders.proofs.showing.show_all.Goals as goal

pub returns-in-Ok : goal.returns-in-Ok
returns-in-Ok g c =
    shows g.D.DiskFacts said_listing c.args.disk c.into_disk.result c.listing.result _ _ _
    (rw c.in-Ok.field-0-is at c.in-Ok.ensures.image)
    (rw c.into_disk.ensures (rw c.in-Ok.field-0-is at c.in-Ok.ensures.looks))
    c.listing.ensures.ok c.listing.ensures.err
