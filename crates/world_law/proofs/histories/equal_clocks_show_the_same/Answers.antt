use Rattle.world_law.proofs.Clauses.{same_shown}
use Rattle.world_law.proofs.histories.equal_clocks_show_the_same.Goals as goal

pub returns : goal.returns
returns c = same_shown
