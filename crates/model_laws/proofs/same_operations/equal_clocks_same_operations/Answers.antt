use Rattle.model_laws.proofs.Equal.{equal_clocks}
use Rattle.model_laws.proofs.same_operations.equal_clocks_same_operations.Goals as goal

pub returns : goal.returns
returns c = equal_clocks
