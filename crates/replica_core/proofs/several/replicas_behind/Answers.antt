use Rattle.std.proofs.Common.{arith}
use Rattle.replica_core.proofs.LengthLemmas.{length-advanced_new, length-advanced_old}
use Rattle.replica_core.proofs.several.replicas_behind.Goals as goal

pub returns-then-get-eq0-clause-value : goal.returns-then-get-eq0-clause-value
returns-then-get-eq0-clause-value c =
    omega (arith, length-advanced_new c.args.clock.now c.args.replica c.get.ensures.rising (omega arith))

pub returns-else-get-eq0-clause-value : goal.returns-else-get-eq0-clause-value
returns-else-get-eq0-clause-value c =
    omega (arith, length-advanced_old c.args.clock.now c.args.replica c.get.ensures.rising (omega arith))
