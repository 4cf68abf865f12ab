use Rattle.world_law.proofs.Answered.{answered_forever}
use Rattle.world_law.proofs.tokens.settled_tokens_are_answered_forever.Goals as goal

pub returns : goal.returns
returns c = answered_forever
