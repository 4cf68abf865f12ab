use Rattle.std.proofs.Common.{ap, sym, ◌∙◌}
use Rattle.span_flatten.specs.Spots.{begun_before}
use Rattle.span_flatten.proofs.SpotLemmas.{begun_there}
use Rattle.span_flatten.proofs.spot.start_spot.Goals as goal

pub returns-in-From : goal.returns-in-From
returns-in-From c = λ i border.
    c.behind.ensures i border
    ∙ begun_there c.args.sequence.now i c.in-From.anchor
    ∙ ap (begun_before c.args.sequence.now i) (sym c.in-From.is)
