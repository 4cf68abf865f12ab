use Rattle.shared_hub.specs.Committing.{with_met}
use Rattle.shared_hub.proofs.GoingLemmas.{device_goes}
use Rattle.shared_hub.proofs.MetLemmas.{steps_on}
use Rattle.shared_hub.proofs.committer.Committer.device_step.Goals as goal

-- the flusher goes on from each meeting
pub invariant_of-self : goal.invariant_of-self
invariant_of-self g c =
    let facts = g.D.DiskFacts in
    let old = c.self.inside.flusher in
    let goes = device_goes facts old c.device_step-result.new.self c.device_step-result.result (λ disk told. g.met.D.Disk.lawful disk told) c.kept.ensures
    c.device_step-result.ensures.step c.device_step-result.ensures.same in
    steps_on facts (with_met old c.self.inside.pass c.self.inside.met) c.device_step-result.new.self c.self.invariant goes
    c.device_step-result.ensures.fits

-- as a device call makes it go
pub returns-clause-goes : goal.returns-clause-goes
returns-clause-goes g c =
    rw (← c.self.view_is) (device_goes g.D.DiskFacts c.self.inside.flusher c.device_step-result.new.self c.device_step-result.result
    (λ disk told. g.met.D.Disk.lawful disk told) c.kept.ensures c.device_step-result.ensures.step c.device_step-result.ensures.same)
