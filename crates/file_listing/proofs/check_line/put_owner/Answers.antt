use Rattle.std.proofs.Common.{◌++◌, codes}
use Rattle.file_listing.specs.Checked.{name_of}
use Rattle.file_listing.proofs.PutLemmas.{then_puts}
use Rattle.file_listing.proofs.check_line.put_owner.Goals as goal

pub returns : goal.returns
returns c =
    let name = name_of c.args.replica in
    let end = codes "\"" in
    then_puts _ _ _ _ (codes ",\"replica\":\"") (name ++ end) c.in_ok-put.ensures
    (then_puts _ _ _ _ name end c.in_ok-put_name.ensures c.put-2.ensures)
