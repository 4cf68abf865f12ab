use Rattle.std.proofs.Common.{subst}
use Rattle.session_threads.specs.HubCalls.{GoesThrough}
use Rattle.session_threads.proofs.SettleLemmas.{ended_wrong, ended_through}
use Rattle.session_threads.proofs.committing.commit.Goals as goal

pub returns-then-is_through-clause-commits : goal.returns-then-is_through-clause-commits
returns-then-is_through-clause-commits g c =
    let goes = subst (λ b. GoesThrough g.D.DiskFacts c.begin.new.hub b c.go_through-is_through.new.hub) c.if-is_through.true c.go_through-is_through.ensures in
    let ended = ended_through g.D.DiskFacts _ _ _ _ c.settle.result c.in-UnderWay.ensures goes c.settle.ensures.call in
    rw c.is_ok-is_settled.ensures.value ended.commits

pub returns-else-is_through-clause-commits : goal.returns-else-is_through-clause-commits
returns-else-is_through-clause-commits g c =
    let goes = subst (λ b. GoesThrough g.D.DiskFacts c.begin.new.hub b c.go_through-is_through.new.hub) c.if-is_through.false c.go_through-is_through.ensures in
    rw c.if-is_through.false (ended_wrong g.D.DiskFacts _ _ _ _ c.settle.result c.in-UnderWay.ensures goes c.settle.ensures.call).commits
