use Rattle.std.proofs.Common.{◌≡◌, true, ap, sym, ◌∙◌, rules}
use Rattle.op_ids.specs.Clock.{is_clock}
use Rattle.op_ids.proofs.ClockLemmas.{rising-advanced}
use Rattle.op_ids.proofs.laws.advanced_rises.Goals as goal

pub returns : goal.returns
returns c =
    let valid : is_clock c.args.clock.now ≡ true = ap is_clock (sym c.entries.ensures.same) ∙ c.entries.ensures.rising in
    rising-advanced c.args.clock.now c.args.replica valid (search rules) c.requires
