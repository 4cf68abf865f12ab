use Rattle.std.proofs.Common.{sym}
use Rattle.locked_replica.proofs.DeviceSteps.{step_made, step_refused}
use Rattle.locked_replica.proofs.PartsFit.{hub_fits}
use Rattle.locked_replica.proofs.hub.Hub.device_step.Goals.{in-Ok, in-Err}
use Rattle.locked_replica.proofs.hub.Hub.device_step.Goals as goal

pub returns-clause-call : goal.returns-clause-call
returns-clause-call g c =
    let fits = hub_fits g.D.DiskFacts c.self.inside.locked c.self.inside.flusher c.kept.ensures c.kept-2.ensures c.self.invariant in
    let after = hub_fits g.D.DiskFacts c.self.inside.locked c.device_step-answer.new.self c.kept.ensures c.kept-3.ensures
    (c.device_step-answer.ensures.fits c.self.inside.locked c.kept.ensures c.self.invariant) in
    elim c.match-answer.branch [
      | in-Ok w ↦
          rw (w.result-is, sym c.self.view_is) (step_made g.D.DiskFacts c.self.inside.locked.replica c.self.inside.flusher.store c.device_step-answer.new.self.store
          w.in-Ok.phase (λ told. g.met.D.Disk.lawful c.self.inside.flusher.store.disk told) fits after w.in-Ok.ensures.step)
      | in-Err w ↦
          rw (w.result-is, sym c.self.view_is) (step_refused g.D.DiskFacts c.self.inside.locked.replica c.self.inside.flusher.store c.device_step-answer.new.self.store
          w.in-Err.error (λ told. g.met.D.Disk.lawful c.self.inside.flusher.store.disk told) fits after w.in-Err.ensures.step)
    ]
