use Rattle.std.proofs.Common.{ap, sym, ◌∙◌}
use Rattle.op_pieces.specs.Pieces.{longer}
use Rattle.op_pieces.proofs.CutLemmas.{open_grows}
use Rattle.op_pieces.proofs.cutter.Cutter.take.Goals as goal

pub invariant_of-self-then-goes_on : goal.invariant_of-self-then-goes_on
invariant_of-self-then-goes_on c =
    let on = sym c.goes_on.ensures.test ∙ c.if-goes_on.true in
    let grown = c.in_ok-grow.ensures.grown ∙ ap (longer c.self.inside.open) c.value_of.ensures in
    rw grown (open_grows c.self.inside.open c.self.inside.last c.args.op c.self.invariant on)
