use Rattle.std.proofs.Common.{◌≡◌, true, length, ap, ◌∙◌, sym, arith}
use Rattle.std.proofs.lemmas.Bool.Decides.{nat_tests}
use Rattle.op_ids.specs.Clock.{is_clock}
use Rattle.op_ids.proofs.ClockLemmas.{is_clock_parts}
use Rattle.op_ids.proofs.JoinLemmas.{missing_from_at_most, is_clock-joined}
use Rattle.op_ids.proofs.clock.Clock.can_join.Goals as goal

pub overflow_add-result : goal.overflow_add-result
overflow_add-result c =
    let own = is_clock_parts c.self.inside.entries.items c.self.invariant in
    let parts = is_clock_parts c.args.other.now c.missing_from.ensures.rising in
    let missing = missing_from_at_most c.args.other.now c.args.self.now in
    grind arith

pub returns : goal.returns
returns c =
    let valid : is_clock c.args.self.now ≡ true = ap is_clock (sym c.self.view_is) ∙ c.self.invariant in
    let size : c.len.result ≡ length c.args.self.now = let items = ap length c.self.view_is in grind arith in
    let rule = is_clock-joined c.args.self.now c.args.other.now valid c.missing_from.ensures.rising in
    grind (arith, nat_tests)
