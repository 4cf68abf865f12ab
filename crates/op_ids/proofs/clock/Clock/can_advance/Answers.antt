use Rattle.std.proofs.Common.{rules, ◌≡◌, ◌<◌, true, ap, ◌∙◌, sym, arith}
use Rattle.std.proofs.lemmas.Bool.Decides.{nat_tests}
use Rattle.op_ids.specs.Clock.{is_clock}
use Rattle.op_ids.proofs.ClockLemmas.{is_clock-advanced}
use Rattle.op_ids.proofs.FullLemmas.{is_full_advanced}
use Rattle.op_ids.proofs.clock.Clock.can_advance.Goals as goal

pub returns-then-count-eq0-clause-fits : goal.returns-then-count-eq0-clause-fits
returns-then-count-eq0-clause-fits c =
    let positive : 0 < c.args.replica = search rules in
    let valid : is_clock c.args.self.now ≡ true = ap is_clock (sym c.self.view_is) ∙ c.self.invariant in
    let rule = is_clock-advanced c.args.self.now c.args.replica valid positive in
    grind (arith, nat_tests)

pub returns-clause-fits : goal.returns-clause-fits
returns-clause-fits c =
    let positive : 0 < c.args.replica = search rules in
    let valid : is_clock c.args.self.now ≡ true = ap is_clock (sym c.self.view_is) ∙ c.self.invariant in
    let rule = is_clock-advanced c.args.self.now c.args.replica valid positive in
    grind (arith, nat_tests)

pub returns-then-count-eq0-clause-full : goal.returns-then-count-eq0-clause-full
returns-then-count-eq0-clause-full c = λ no.
    is_full_advanced c.args.self.now c.args.replica (ap is_clock (sym c.self.view_is) ∙ c.self.invariant) (search rules) (sym (returns-then-count-eq0-clause-fits c) ∙ no)

pub returns-clause-full : goal.returns-clause-full
returns-clause-full c = λ no.
    is_full_advanced c.args.self.now c.args.replica (ap is_clock (sym c.self.view_is) ∙ c.self.invariant) (search rules) (sym (returns-clause-fits c) ∙ no)
