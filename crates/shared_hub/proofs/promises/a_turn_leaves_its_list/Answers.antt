use Rattle.shared_hub.proofs.CrashLemmas.{turn_leaves}
use Rattle.shared_hub.proofs.promises.a_turn_leaves_its_list.Goals as goal

pub returns : goal.returns
returns g c = λ old disk file it told left. turn_leaves g.D.DiskFacts old disk file it told left
