use Rattle.std.proofs.Common.{◌++◌, ◌∙◌, ap}
use Rattle.file_listing.specs.Checked.{said_check}
use Rattle.list_counts.specs.declared.room.Room.{Room}
use Rattle.store_orders.proofs.listing.check_line.Goals as goal

pub returns-clause-ok : goal.returns-clause-ok
returns-clause-ok c =
    c.in_ok-put_check.ensures ∙ ap (λ items. items ++ said_check c.room.result.file c.args.report.now) c.new-line.ensures.items
    ∙ ap (λ (r : Room). said_check r.file c.args.report.now) c.room.ensures
