use Rattle.std.proofs.Common.{refl}
use Rattle.shared_hub.proofs.GoingLemmas.{goes_nowhere, goes_behind}
use Rattle.shared_hub.proofs.flushing.go_through.Goals as goal

-- nothing was done yet
pub loop-init : goal.loop-init
loop-init g c = goes_nowhere g.D.DiskFacts c.args.committer.now.flusher c.args.committer.now.flusher (λ disk told. g.met.D.Disk.lawful disk told) c.kept.ensures refl

-- one more
pub returns-then-matches : goal.returns-then-matches
returns-then-matches g c = goes_behind g.D.DiskFacts c.args.committer.now.flusher c.loop.committer.flusher c.device_step.new.self.flusher c.loop.invariant c.device_step.ensures.goes

-- one more
pub loop-preserved : goal.loop-preserved
loop-preserved g c = goes_behind g.D.DiskFacts c.args.committer.now.flusher c.loop.committer.flusher c.device_step.new.self.flusher c.loop.invariant c.device_step.ensures.goes

-- one more
pub returns-in-Err : goal.returns-in-Err
returns-in-Err g c = goes_behind g.D.DiskFacts c.args.committer.now.flusher c.loop.committer.flusher c.device_step.new.self.flusher c.loop.invariant c.device_step.ensures.goes
