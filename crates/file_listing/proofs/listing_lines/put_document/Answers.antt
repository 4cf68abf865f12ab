use Rattle.std.proofs.Common.{◌++◌, codes}
use Rattle.file_listing.specs.Listing.{member}
use Rattle.file_listing.proofs.PutLemmas.{then_puts}
use Rattle.file_listing.proofs.listing_lines.put_document.Goals as goal

pub returns : goal.returns
returns c =
    let chars = member (codes "{\"chars\":") c.counts.inside.chars in
    let doc = member (codes ",\"doc\":") c.counts.inside.doc in
    let ops = member (codes ",\"ok\":true,\"ops\":") c.counts.inside.ops in
    let end = codes "}\n" in
    rw (← c.counts.view_is)
    (then_puts _ _ _ _ chars (doc ++ (ops ++ end)) c.in_ok-put_member.ensures
    (then_puts _ _ _ _ doc (ops ++ end) c.in_ok-put_member-2.ensures
    (then_puts _ _ _ _ ops end c.in_ok-put_member-3.ensures c.put.ensures)))
