use Rattle.std.proofs.Common.{List, subst}
use Rattle.op_model.specs.declared.op.Op.{Op}
use Rattle.change_codec.specs.Stream.{AreOperations}
use Rattle.op_list.proofs.Holding.{fits_take}
use Rattle.run_list.proofs.bare_slice.BareSlice.kept.Goals as goal

pub returns-clause-fits : goal.returns-clause-fits
returns-clause-fits c =
    subst (λ (ops : List Op). AreOperations ops) c.self.view_is (fits_take c.self.inside.len c.self.inside.list.now c.kept.ensures.fits)
