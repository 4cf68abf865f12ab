use Rattle.world_law.proofs.Together.{tokens_name_one_edit}
use Rattle.world_law.proofs.tokens.tokens_name_one_edit.Goals as goal

pub returns : goal.returns
returns c = tokens_name_one_edit
