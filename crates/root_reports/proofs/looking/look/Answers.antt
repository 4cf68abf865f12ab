use Rattle.std.proofs.Common.{◌-◌, ap, ◌∙◌}
use Rattle.page_file.proofs.Looked.{looked_on}
use Rattle.root_slots.specs.Slots.{body}
use Rattle.root_reports.proofs.ReportLemmas.{report_is}
use Rattle.root_reports.proofs.looking.look.Goals as goal

pub returns-clause-report : goal.returns-clause-report
returns-clause-report g c = λ told.
    let first = c.in_ok-roots.ensures.looks in
    let live = c.in_ok-roots.ensures.read.live_one told in
    let read = c.in_ok-read_body.ensures.read (first.tells.1 told) ∙ ap (body (1 - c.slot-page.result)) (first.looks told).same in
    report_is (g.D.DiskFacts.content c.args.disk.now) c.slot-page.result c.in_ok-roots.field-0.roots.slot c.in_ok-roots.field-0.roots.stale_open c.in_ok-roots.field-0.root
    c.format.result c.version-version.result c.replica.result c.read_body.new.bytes c.in_ok-stale_of.field-0
    live c.slot-page.ensures.slot read c.format.ensures c.version-version.ensures.value c.replica.ensures c.in_ok-stale_of.ensures

pub returns-clause-looks : goal.returns-clause-looks
returns-clause-looks g c =
    looked_on g.D.DiskFacts 0 0 c.args.disk.now c.load.new.disk c.read_body.new.disk c.in_ok-roots.ensures.looks c.in_ok-read_body.ensures.looks
