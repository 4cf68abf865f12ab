use Rattle.std.proofs.Common.{ap, Err}
use Rattle.group_commit.proofs.Faults.{feed_fault}
use Rattle.group_commit.proofs.load_ops.feed.Goals as goal

pub returns-in-Err-clause-fault : goal.returns-in-Err-clause-fault
returns-in-Err-clause-fault c =
    let args = c.args in
    rw (c.from-in-Err.ensures, c.from.ensures) (feed_fault c.in-Err.error _ _ _ (λ is. c.in-Err.ensures.none (ap (λ e. Err e) is)))
