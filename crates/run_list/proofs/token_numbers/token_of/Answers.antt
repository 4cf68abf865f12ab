use Rattle.std.proofs.Common.{◌∙◌, ap, arith}
use Rattle.std.specs.Int.{w128, from_be_bytes}
use Rattle.change_codec.proofs.Numbers.{wide128}
use Rattle.run_list.proofs.Telling.{token_read}
use Rattle.run_list.proofs.token_numbers.token_of.Goals as goal

pub returns : goal.returns
returns c =
    token_read c.args.number _ c.read.result c.read.ensures.none.0 c.read.ensures.none.1 c.read.ensures.some
    (ap (from_be_bytes w128) c.to_be_bytes.ensures ∙ wide128.again c.args.number (omega arith))
