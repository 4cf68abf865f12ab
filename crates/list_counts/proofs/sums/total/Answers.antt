use Rattle.std.proofs.Common.{◌≡◌, true, ap, arith}
use Rattle.op_ids.specs.Clock.{total_of, is_clock}
use Rattle.list_counts.proofs.SumLemmas.{total_limit}
use Rattle.list_counts.proofs.sums.total.Goals as goal

pub loop-entry-init : goal.loop-entry-init
loop-entry-init c =
    let given = c.entries-entry-items.ensures in
    let clock : is_clock c.args.clock.now ≡ true = rw given.same at given.rising in
    (let same = ap total_of given.same in omega arith, total_limit c.args.clock.now clock)
