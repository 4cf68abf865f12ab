use Rattle.std.proofs.Common.{sym}
use Rattle.hub_parts.proofs.FlusherSteps.{outcome_of, flusher_stepped}
use Rattle.hub_parts.proofs.MeetSteps.{meet_stepped}
use Rattle.hub_parts.proofs.flusher.Flusher.device_step.Goals as goal

pub invariant_of-self : goal.invariant_of-self
invariant_of-self g c =
    flusher_stepped g.D.DiskFacts c.self.inside.store c.step.new.self c.self.inside.list c.self.inside.due c.self.invariant
    (outcome_of g.D.DiskFacts c.self.inside.store c.step.new.self c.step.result c.step.ensures.step)

pub returns-clause-fits : goal.returns-clause-fits
returns-clause-fits g c =
    rw (sym c.self.view_is) (meet_stepped g.D.DiskFacts c.self.inside.store c.step.new.self c.self.inside.list c.self.inside.due c.self.invariant
    (outcome_of g.D.DiskFacts c.self.inside.store c.step.new.self c.step.result c.step.ensures.step))
