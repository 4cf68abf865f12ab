use Rattle.std.proofs.Common.{◌∙◌, ap, length}
use Rattle.char_sequence.specs.Cells.{shown}
use Rattle.char_sequence.specs.Chunks.{cells_of}
use Rattle.char_sequence.proofs.SumLemmas.{seen_all}
use Rattle.char_sequence.proofs.chunks.Chunks.shown.Goals as goal

pub returns : goal.returns
returns c = c.self.invariant.2 ∙ (seen_all c.self.inside.chunks.items ∙ ap (λ held. length (shown (cells_of held))) c.self.view_is)
