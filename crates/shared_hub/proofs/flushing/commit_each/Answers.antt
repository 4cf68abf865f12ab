use Rattle.std.proofs.Common.{refl}
use Rattle.shared_hub.proofs.GoingLemmas.{goes_nowhere, goes_behind}
use Rattle.shared_hub.proofs.flushing.commit_each.Goals as goal

-- nothing was done yet
pub loop-init : goal.loop-init
loop-init g c = goes_nowhere g.D.DiskFacts c.args.committer.now.flusher c.args.committer.now.flusher (λ disk told. g.met.D.Disk.lawful disk told) c.kept.ensures refl

-- one more
pub loop-preserved : goal.loop-preserved
loop-preserved g c = goes_behind g.D.DiskFacts c.args.committer.now.flusher c.loop.committer.flusher c.commit.new.committer.flusher c.loop.invariant c.commit.ensures

-- one more
pub returns-then-not-commit : goal.returns-then-not-commit
returns-then-not-commit g c =
    goes_behind g.D.DiskFacts c.args.committer.now.flusher c.loop.committer.flusher c.commit.new.committer.flusher c.loop.invariant c.commit.ensures
