use Rattle.std.proofs.Common.{◌∙◌, ap, arith}
use Rattle.char_sequence.specs.Chunks.{cells_of}
use Rattle.char_sequence.proofs.GapLemmas.{many_shown}
use Rattle.char_sequence.proofs.SumLemmas.{seen_all, seen_most}
use Rattle.char_sequence.proofs.sequence.Sequence.shown.Goals as goal

pub returns-clause-shown : goal.returns-clause-shown
returns-clause-shown c = λ ops doc holds.
    c.shown.ensures ∙ many_shown ops doc (cells_of c.self.inside.chunks) (ap cells_of c.self.view_is ∙ holds.content)

pub returns-clause-few : goal.returns-clause-few
returns-clause-few c =
    let most = seen_most c.self.inside.chunks c.are_sized.ensures.chunks.sized in
    let all = seen_all c.self.inside.chunks in
    let many = c.are_sized.ensures.many in
    let is = c.shown.ensures in
    omega arith
