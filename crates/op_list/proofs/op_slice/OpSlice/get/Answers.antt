use Rattle.std.proofs.Common.{inl, inr, rules}
use Rattle.change_codec.specs.Record.{BeginsWithOp}
use Rattle.change_codec.proofs.RecordLaws.{of_third}
use Rattle.op_list.proofs.FirstRecord.{first_of, is_at}
use Rattle.op_list.proofs.op_slice.OpSlice.get.Goals as goal

pub unreachable-requires : goal.unreachable-requires
unreachable-requires c =
    let first =
    first_of c.records_from.result.now c.args.self.now c.args.i c.requires
    c.records_from.ensures.fits c.records_from.ensures.spelled_so in
    let none = c.in-Ok-None.field-0-is in
    elim (c.take_op.ensures.only first.op first.len (of_third first.op) first.begins) [
      | inl found ↦ absurd cc
      | inr memory ↦ absurd cc
    ]

pub unreachable-requires-in-Err : goal.unreachable-requires-in-Err
unreachable-requires-in-Err c =
    let first =
    first_of c.records_from.result.now c.args.self.now c.args.i c.requires
    c.records_from.ensures.fits c.records_from.ensures.spelled_so in
    elim (c.in-Err.ensures.only first.op first.len (of_third first.op) first.begins) [
      | inl found ↦ absurd cc
      | inr memory ↦ absurd (search rules)
    ]

pub returns-in-Ok-Some : goal.returns-in-Ok-Some
returns-in-Ok-Some c =
    let first =
    first_of c.records_from.result.now c.args.self.now c.args.i c.requires
    c.records_from.ensures.fits c.records_from.ensures.spelled_so in
    let begins : BeginsWithOp c.records_from.result.now c.in-Ok-Some.op c.in-Ok-Some.field-0-0-1 =
    search rules in
    is_at c.records_from.result.now c.args.self.now c.args.i c.in-Ok-Some.field-0-0-1
    c.in-Ok-Some.op c.in-Ok-Some.op first begins
