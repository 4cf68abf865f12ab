use Rattle.std.proofs.Common.{◌∙◌, ap, sym}
use Rattle.change_codec.specs.Reading.{behind_at}
use Rattle.change_codec.proofs.RecordLaws.{begins_four, read_origin, some_origin}
use Rattle.change_codec.proofs.peek.record_origin.Goals as goal

pub split_at-requires : goal.split_at-requires
split_at-requires c = begins_four c.args.bytes.now c.requires.0 c.requires.1 c.requires.2

pub unreachable-requires : goal.unreachable-requires
unreachable-requires c =
    some_origin c.args.bytes.now c.requires.0 c.requires.1 c.in-Err.field-0 c.requires.2 (ap behind_at (sym c.split_at.ensures.back) ∙ c.in-Err.ensures)

pub returns : goal.returns
returns c = λ op n begins.
    read_origin c.args.bytes.now op n c.in-Ok.origin begins (ap behind_at (sym c.split_at.ensures.back) ∙ c.in-Ok.ensures)
