use Rattle.std.proofs.Common.{sym, ◌∙◌, ap}
use Rattle.op_model.specs.Walk.{walk}
use Rattle.char_sequence.specs.Cells.{shown_at}
use Rattle.char_sequence.specs.Chunks.{cells_of}
use Rattle.char_sequence.proofs.ReadLemmas.{shown_at-map}
use Rattle.char_sequence.proofs.StartLemmas.{from_start}
use Rattle.char_sequence.proofs.sequence.Sequence.visible_in.Goals as goal

pub returns-in-Some-clause-found : goal.returns-in-Some-clause-found
returns-in-Some-clause-found c = λ ops doc holds.
    sym c.in-Some.ensures.found.id ∙ (ap (λ cells. shown_at cells c.args.k) (from_start c.self.inside.chunks ∙ (ap cells_of c.self.view_is ∙ holds.content))
    ∙ shown_at-map ops doc (walk ops doc) c.args.k)

pub returns-in-None-clause-found : goal.returns-in-None-clause-found
returns-in-None-clause-found c = λ ops doc holds.
    sym c.in-None.ensures.found ∙ (ap (λ cells. shown_at cells c.args.k) (ap cells_of c.self.view_is ∙ holds.content)
    ∙ shown_at-map ops doc (walk ops doc) c.args.k)
