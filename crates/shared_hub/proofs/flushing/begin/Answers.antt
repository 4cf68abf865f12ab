use Rattle.std.proofs.Common.{refl}
use Rattle.shared_hub.proofs.GoingLemmas.{goes_nowhere, goes_behind}
use Rattle.shared_hub.proofs.flushing.begin.Goals as goal

-- nothing was done yet
pub loop-init : goal.loop-init
loop-init g c = goes_nowhere g.D.DiskFacts c.args.committer.now.flusher c.args.committer.now.flusher (λ disk told. g.met.D.Disk.lawful disk told) c.kept.ensures refl

-- one more
pub returns-in-Ok-Begun : goal.returns-in-Ok-Begun
returns-in-Ok-Begun g c = goes_behind g.D.DiskFacts c.args.committer.now.flusher c.loop.committer.flusher c.try_once.new.committer.flusher c.loop.invariant c.try_once.ensures

-- one more
pub returns-in-Ok : goal.returns-in-Ok
returns-in-Ok g c = goes_behind g.D.DiskFacts c.args.committer.now.flusher c.loop.committer.flusher c.try_once.new.committer.flusher c.loop.invariant c.try_once.ensures

-- one more
pub returns-in-Err-Failed : goal.returns-in-Err-Failed
returns-in-Err-Failed g c = goes_behind g.D.DiskFacts c.args.committer.now.flusher c.loop.committer.flusher c.try_once.new.committer.flusher c.loop.invariant c.try_once.ensures

-- one more
pub loop-preserved : goal.loop-preserved
loop-preserved g c = goes_behind g.D.DiskFacts c.args.committer.now.flusher c.loop.committer.flusher c.try_once.new.committer.flusher c.loop.invariant c.try_once.ensures

-- one more
pub returns-in-Err : goal.returns-in-Err
returns-in-Err g c = goes_behind g.D.DiskFacts c.args.committer.now.flusher c.loop.committer.flusher c.try_once.new.committer.flusher c.loop.invariant c.try_once.ensures
