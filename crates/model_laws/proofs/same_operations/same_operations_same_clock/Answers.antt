use Rattle.model_laws.proofs.Clocks.{same_clock}
use Rattle.model_laws.proofs.same_operations.same_operations_same_clock.Goals as goal

pub returns : goal.returns
returns c = same_clock
