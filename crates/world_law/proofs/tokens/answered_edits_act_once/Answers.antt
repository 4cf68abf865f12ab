use Rattle.world_law.proofs.Stays.{acts_once}
use Rattle.world_law.proofs.tokens.answered_edits_act_once.Goals as goal

pub returns : goal.returns
returns c = acts_once
