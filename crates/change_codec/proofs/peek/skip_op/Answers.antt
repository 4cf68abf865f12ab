use Rattle.std.proofs.Common.{◌∙◌, arith, sym}
use Rattle.change_codec.proofs.RecordLaws.{skipped_some, none_skipped}
use Rattle.change_codec.proofs.peek.skip_op.Goals as goal

pub returns-clause-some : goal.returns-clause-some
returns-clause-some c = skipped_some c.args.format c.args.bytes.now c.skip_record.result (λ i. omega (arith, c.type_inv.bytes i)) c.skip_record.ensures

pub returns-clause-none : goal.returns-clause-none
returns-clause-none c = λ none op n of_format begins.
    none_skipped c.args.format c.args.bytes.now op n (sym c.skip_record.ensures ∙ none) of_format begins
