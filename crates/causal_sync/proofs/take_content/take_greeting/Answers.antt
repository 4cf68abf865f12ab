use Rattle.std.proofs.Common.{rules, arith}
use Rattle.std.proofs.lemmas.Grind.{common_steps}
use Rattle.change_codec.specs.Reading.{number_at}
use Rattle.causal_sync.specs.Reading.{greeting_at, tag_at}
use Rattle.causal_sync.proofs.take_content.take_greeting.Goals as goal

pub returns-in_default : goal.returns-in_default
unfolding greeting_at tag_at number_at
returns-in_default c = search rules

pub returns-in_default-split_first_chunk : goal.returns-in_default-split_first_chunk
unfolding greeting_at tag_at number_at
returns-in_default-split_first_chunk c = search rules

pub returns-then-from_be_bytes-ne3 : goal.returns-then-from_be_bytes-ne3
unfolding greeting_at tag_at number_at
returns-then-from_be_bytes-ne3 c = search rules

pub returns : goal.returns
unfolding greeting_at tag_at number_at
returns c = grind (arith, common_steps)
