-- The list that was opened is that of the image, and the slots are those of the same file.
use Rattle.file_listing.specs.Checked.{said_check}
use Rattle.list_counts.specs.Documents.{room_of}
use Rattle.group_commit.specs.Opening.{IsLookedAt}
use Rattle.root_reports.specs.Reports.{report_of}
use Rattle.store_orders.proofs.CheckingLemmas.{shows_found}
use Rattle.store_orders.proofs.checking.show_check.Goals as goal

pub returns-in-Ok : goal.returns-in-Ok
returns-in-Ok g c =
    let facts = g.D.DiskFacts in
    let first : IsLookedAt facts 0 1 c.args.disk c.into_disk-disk.result =
    rw c.into_disk-disk.ensures (rw c.in-Ok.field-0-is at c.in-Ok.ensures.looks) in
    shows_found facts (λ list. said_check (room_of list) (report_of (facts.content c.args.disk))) c.args.disk c.into_disk-disk.result c.found-lines.new.disk
    c.found-lines.result _ _ c.found-lines.ensures.looks.0 _
    (rw c.in-Ok.field-0-is at c.in-Ok.ensures.image) first c.found-lines.ensures.looks.1
    (λ told. rw (first.looks told).same at (c.found-lines.ensures.ok (first.tells.1 told)))
    (λ told. rw (first.looks told).same at (c.found-lines.ensures.err (first.tells.1 told)))
