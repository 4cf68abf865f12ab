use Rattle.std.proofs.Common.{◌∙◌, sym}
use Rattle.command_syntax.proofs.ValueLemmas.{number_parsed}
use Rattle.command_syntax.proofs.values.number.Goals as goal

pub returns : goal.returns
returns c =
    c.ok.ensures.value
    ∙ number_parsed c.args.text.now c.parse.result (sym c.is_decimal.ensures ∙ c.if-not-is_decimal.false) c.parse.ensures.value.0
