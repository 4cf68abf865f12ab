use Rattle.causal_sync.proofs.AgainLemmas.{frame_again}
use Rattle.causal_sync.proofs.laws.spelled_is_read.Goals as goal

pub returns : goal.returns
returns c = frame_again
