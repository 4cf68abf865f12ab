use Rattle.std.proofs.Common.{◌∙◌, arith}
use Rattle.std.proofs.lemmas.List.{take_all}
use Rattle.std.proofs.lemmas.Option.{MatchOption-at_some}
use Rattle.group_commit.proofs.device_calls.whole_page.Goals as goal

pub returns : goal.returns
returns c =
    (MatchOption-at_some _ _ c.unwrap.result c.unwrap.ensures c.split_first_chunk.ensures.cases).0
    ∙ take_all 4096 c.args.bytes.now (omega (arith, c.requires.size))
