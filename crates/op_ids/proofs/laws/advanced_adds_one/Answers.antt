use Rattle.std.proofs.Common.{◌≡◌, true, ap, sym, ◌∙◌}
use Rattle.op_ids.specs.Clock.{is_clock}
use Rattle.op_ids.proofs.ClockLemmas.{count_of-advanced}
use Rattle.op_ids.proofs.laws.advanced_adds_one.Goals as goal

pub returns : goal.returns
returns c =
    let valid : is_clock c.args.clock.now ≡ true = ap is_clock (sym c.entries.ensures.same) ∙ c.entries.ensures.rising in
    count_of-advanced c.args.clock.now c.args.replica valid
