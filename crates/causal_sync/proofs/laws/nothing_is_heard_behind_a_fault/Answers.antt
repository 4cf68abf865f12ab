use Rattle.causal_sync.proofs.Endings.{behind_a_fault}
use Rattle.causal_sync.proofs.laws.nothing_is_heard_behind_a_fault.Goals as goal

pub returns : goal.returns
returns c = behind_a_fault
