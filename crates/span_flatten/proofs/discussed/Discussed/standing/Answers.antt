use Rattle.std.proofs.Common.{◌∙◌}
use Rattle.span_flatten.proofs.StandingLemmas.{standing_keys}
use Rattle.span_flatten.proofs.discussed.Discussed.standing.Goals as goal

pub returns : goal.returns
returns c = λ ms set are. c.from.ensures ∙ (c.in_ok-listed.ensures.items ∙ standing_keys c.args.self.now ms set c.in_ok-listed.ensures.ordered are)
