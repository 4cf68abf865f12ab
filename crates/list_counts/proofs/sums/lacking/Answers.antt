use Rattle.std.proofs.Common.{◌≡◌, true, ap, arith}
use Rattle.op_ids.specs.Clock.{is_clock}
use Rattle.list_counts.specs.Counts.{lacking}
use Rattle.list_counts.proofs.SumLemmas.{total_limit, lacking_at_most}
use Rattle.list_counts.proofs.sums.lacking.Goals as goal

pub loop-entry-init : goal.loop-entry-init
loop-entry-init c =
    let given = c.entries-entry-items.ensures in
    let clock : is_clock c.args.here.now ≡ true = rw given.same at given.rising in
    let most = total_limit c.args.here.now clock in
    let fewer = lacking_at_most c.args.clock.now c.args.here.now in
    (let same = ap (lacking c.args.clock.now) given.same in omega arith, omega arith)
