use Rattle.std.proofs.Common.{◌∙◌, ap}
use Rattle.std.proofs.lemmas.Result.{IfOk-weaker}
use Rattle.char_sequence.specs.Chunks.{cells_of}
use Rattle.char_sequence.proofs.ReadLemmas.{shown_range}
use Rattle.char_sequence.proofs.sequence.Sequence.visible_range.Goals as goal

pub returns-clause-range : goal.returns-clause-range
returns-clause-range c = IfOk-weaker c.shown_from.result _ _ (λ ids is_range. λ ops doc holds.
    is_range ∙ shown_range ops doc c.args.k c.args.count (cells_of c.self.inside.chunks) (ap cells_of c.self.view_is ∙ holds.content))
    c.shown_from.ensures.range
