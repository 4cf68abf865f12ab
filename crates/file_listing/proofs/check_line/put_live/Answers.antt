use Rattle.std.proofs.Common.{◌++◌, codes}
use Rattle.file_listing.specs.Checked.{number_of}
use Rattle.file_listing.specs.Listing.{member}
use Rattle.file_listing.proofs.PutLemmas.{then_puts}
use Rattle.file_listing.proofs.check_line.put_live.Goals as goal

pub returns : goal.returns
returns c =
    let report = c.args.report.now in
    let format = member (codes ",\"format\":") (number_of report.format) in
    let page = member (codes ",\"live\":{\"page\":") report.page in
    let version = member (codes ",\"version\":") report.version in
    then_puts _ _ _ _ format (page ++ version) (rw c.number_of.ensures at c.in_ok-put_member.ensures)
    (then_puts _ _ _ _ page version c.in_ok-put_member-2.ensures c.put_member-3.ensures)
