use Rattle.std.proofs.Common.{◌≡◌, ◌∙◌, ap, subst}
use Rattle.std.specs.Option.{IfSome}
use Rattle.char_sequence.specs.Chunks.{cells_of}
use Rattle.char_sequence.specs.Gaps.{IsGap}
use Rattle.char_sequence.proofs.GapLemmas.{gap_found, gap_there}
use Rattle.char_sequence.proofs.sequence.Sequence.gap.Goals as goal

pub returns-clause-there : goal.returns-clause-there
returns-clause-there c = λ ops doc holds.
    gap_there ops doc c.args.count c.self.inside.chunks c.gap.result (ap cells_of c.self.view_is ∙ holds.content) c.gap.ensures

pub returns-clause-gap : goal.returns-clause-gap
returns-clause-gap c =
    subst (λ held. IfSome c.gap.result (λ gap. (gap.count ≡ c.args.count) × IsGap held gap)) c.self.view_is
    (gap_found c.args.count c.self.inside.chunks c.gap.result c.gap.ensures)
