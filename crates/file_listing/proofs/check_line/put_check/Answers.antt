use Rattle.std.proofs.Common.{◌++◌, codes}
use Rattle.file_listing.specs.Listing.{member}
use Rattle.file_listing.specs.Checked.{said_live, said_owner, said_stale}
use Rattle.file_listing.proofs.PutLemmas.{then_puts}
use Rattle.file_listing.proofs.check_line.put_check.Goals as goal

pub returns : goal.returns
returns c =
    let room = c.args.room in
    let report = c.args.report.now in
    let bytes = member (codes "{\"bytes\":") room.bytes in
    let documents = member (codes ",\"documents\":") room.documents in
    let live = said_live report in
    let operations = member (codes "},\"ok\":true,\"operations\":") room.operations in
    let owner = said_owner report.replica in
    let replicas = member (codes ",\"replicas\":") room.replicas in
    let stale = said_stale report.stale in
    then_puts _ _ _ _ bytes (documents ++ (live ++ (operations ++ (owner ++ (replicas ++ stale))))) c.in_ok-put_member.ensures
    (then_puts _ _ _ _ documents (live ++ (operations ++ (owner ++ (replicas ++ stale)))) c.in_ok-put_member-2.ensures
    (then_puts _ _ _ _ live (operations ++ (owner ++ (replicas ++ stale))) c.in_ok-put_live.ensures
    (then_puts _ _ _ _ operations (owner ++ (replicas ++ stale)) c.in_ok-put_member-3.ensures
    (then_puts _ _ _ _ owner (replicas ++ stale) c.in_ok-put_owner.ensures
    (then_puts _ _ _ _ replicas stale c.in_ok-put_member-4.ensures c.put_stale.ensures)))))
