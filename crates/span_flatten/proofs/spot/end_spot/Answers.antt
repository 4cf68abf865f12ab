use Rattle.std.proofs.Common.{ap, sym, ◌∙◌}
use Rattle.span_flatten.specs.Spots.{ended_before}
use Rattle.span_flatten.proofs.SpotLemmas.{ended_there}
use Rattle.span_flatten.proofs.spot.end_spot.Goals as goal

pub returns-in-To : goal.returns-in-To
returns-in-To c = λ i border.
    c.behind.ensures i border
    ∙ ended_there c.args.sequence.now i c.in-To.anchor
    ∙ ap (ended_before c.args.sequence.now i) (sym c.in-To.is)
