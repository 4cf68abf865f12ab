use Rattle.std.proofs.Common.{◌∙◌, ap}
use Rattle.std.specs.Prelude.{nat_le}
use Rattle.char_sequence.specs.Chunks.{cells_of}
use Rattle.char_sequence.proofs.GapLemmas.{many_shown}
use Rattle.char_sequence.proofs.sequence.Sequence.shows.Goals as goal

pub returns : goal.returns
returns c = λ ops doc holds.
    let many = many_shown ops doc (cells_of c.self.inside.chunks) (ap cells_of c.self.view_is ∙ holds.content) in
    ap (nat_le c.args.count) (c.shown.ensures ∙ many)
