use Rattle.std.proofs.Common.{drop, ap, ◌∙◌, arith}
use Rattle.op_list.proofs.Holding.{shown, front_length, records_length, records_behind, fits_drop}
use Rattle.op_list.proofs.op_slice.OpSlice.records_from.Goals as goal

pub split_at-requires : goal.split_at-requires
split_at-requires c =
    let holds = shown _ _ c.args.self.now c.self.invariant c.self.view_is in
    omega
    (arith, c.start.ensures, front_length c.args.n c.args.self.now, records_length _ _ _ holds)

pub returns-clause-spelled_so : goal.returns-clause-spelled_so
returns-clause-spelled_so c =
    let holds = shown _ _ c.args.self.now c.self.invariant c.self.view_is in
    c.split_at.ensures.back ∙ ap (λ n. drop n c.self.inside.records.now) c.start.ensures
    ∙ records_behind c.args.n _ _ _ holds

pub returns-clause-fits : goal.returns-clause-fits
returns-clause-fits c =
    let holds = shown _ _ c.args.self.now c.self.invariant c.self.view_is in
    fits_drop c.args.n c.args.self.now holds.fits
