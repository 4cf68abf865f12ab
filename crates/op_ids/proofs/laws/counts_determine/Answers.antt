use Rattle.std.proofs.Common.{◌≡◌, true, ap, sym, ◌∙◌}
use Rattle.op_ids.specs.Clock.{is_clock}
use Rattle.op_ids.proofs.EqualityLemmas.{same_clock_from_counts}
use Rattle.op_ids.proofs.laws.counts_determine.Goals as goal

pub returns : goal.returns
returns c =
    let a_is : is_clock c.args.a.now ≡ true = ap is_clock (sym c.entries.ensures.same) ∙ c.entries.ensures.rising in
    let b_is : is_clock c.args.b.now ≡ true = ap is_clock (sym c.entries-2.ensures.same) ∙ c.entries-2.ensures.rising in
    same_clock_from_counts c.args.a.now c.args.b.now a_is b_is
