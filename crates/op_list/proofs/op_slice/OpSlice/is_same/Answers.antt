use Rattle.std.proofs.Common.{ap, sym, ◌∙◌}
use Rattle.change_codec.specs.Stream.{spelled_all}
use Rattle.change_codec.proofs.StreamLaws.{spelled_all-determines}
use Rattle.op_list.proofs.Told.{told}
use Rattle.op_list.proofs.op_slice.OpSlice.is_same.Goals as goal

pub returns : goal.returns
returns c =
    let says = told c.eq.result c.records_from.result.now c.records_from-2.result.now c.eq.ensures in (
      λ equal. spelled_all-determines c.args.self.now c.args.other.now c.records_from.ensures.fits c.records_from-2.ensures.fits
          (sym c.records_from.ensures.spelled_so ∙ says.0 equal ∙ c.records_from-2.ensures.spelled_so),
      λ same. says.1 (c.records_from.ensures.spelled_so ∙ ap spelled_all same ∙ sym c.records_from-2.ensures.spelled_so),
    )
