use Rattle.std.proofs.Common.{arith}
use Rattle.replica_core.proofs.FollowLemmas.{next_fits}
use Rattle.replica_core.proofs.preparing.copying.Goals as goal

pub overflow_add-result : goal.overflow_add-result
overflow_add-result c =
    let fits = next_fits c.requires.0 c.args.known.now.index.now.greatest c.requires.1.closed c.requires.1.index.greatest in
    omega arith
