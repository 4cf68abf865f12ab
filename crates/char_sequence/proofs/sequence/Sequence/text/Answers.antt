use Rattle.std.proofs.Common.{◌∙◌, ap}
use Rattle.op_model.specs.Walk.{walk}
use Rattle.char_sequence.specs.Cells.{shown_values}
use Rattle.char_sequence.specs.Chunks.{cells_of}
use Rattle.char_sequence.proofs.ReadLemmas.{shown_values-map}
use Rattle.char_sequence.proofs.sequence.Sequence.text.Goals as goal

pub returns : goal.returns
returns c = λ ops doc holds.
    c.from.ensures ∙ (c.in_ok-values.ensures
    ∙ (ap shown_values (ap cells_of c.self.view_is ∙ holds.content) ∙ shown_values-map ops doc (walk ops doc)))
