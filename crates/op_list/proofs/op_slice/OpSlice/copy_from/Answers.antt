use Rattle.std.proofs.Common.{drop, Err, ap, sym, ◌∙◌}
use Rattle.change_codec.proofs.StreamLaws.{spelled_all-determines, are_of_third}
use Rattle.op_list.proofs.op_slice.OpSlice.copy_from.Goals as goal

pub returns-in-Ok : goal.returns-in-Ok
returns-in-Ok c =
    spelled_all-determines c.in-Ok.ops.items (drop c.args.n c.args.self.now) c.in-Ok.ensures.fits
    c.records_from.ensures.fits
    (c.in-Ok.ensures.spelled_so ∙ c.records_from.ensures.spelled_so)

pub unreachable-requires : goal.unreachable-requires
unreachable-requires c =
    c.in-Err-Stream.ensures.none (ap (λ e. Err e) c.in-Err-Stream.field-0-is) (drop c.args.n c.args.self.now) c.records_from.ensures.fits (are_of_third (drop c.args.n c.args.self.now)) (sym c.records_from.ensures.spelled_so)
