use Rattle.std.proofs.Common.{◌≡◌, ap, ◌∙◌}
use Rattle.op_ids.specs.Clock.{is_same_clock}
use Rattle.op_ids.proofs.EqualityLemmas.{is_same_clock_tells}
use Rattle.op_ids.proofs.clock.ClockPartialEq.eq.Goals as goal

pub returns-clause-same : goal.returns-clause-same
returns-clause-same c =
    let value : c.eq.result ≡ is_same_clock c.args.self.now c.args.other.now =
    c.eq.ensures ∙ ap (λ es. is_same_clock es c.other.inside.entries.items) c.self.view_is ∙ ap (is_same_clock c.args.self.now) c.other.view_is in
    is_same_clock_tells c.args.self.now c.args.other.now c.eq.result value
