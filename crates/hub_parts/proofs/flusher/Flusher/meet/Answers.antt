use Rattle.std.proofs.Common.{sym, ap, ◌∙◌}
use Rattle.group_commit.specs.Begin.{is_idle}
use Rattle.hub_parts.proofs.Settling.{meet_settled}
use Rattle.hub_parts.proofs.flusher.Flusher.meet.Goals as goal

pub returns-clause-fits : goal.returns-clause-fits
returns-clause-fits g c =
    rw (sym c.self.view_is, c.settle.ensures.settled)
    (meet_settled g.D.DiskFacts c.args.locked.now c.self.inside.store c.self.inside.list c.self.inside.due c.self.invariant c.kept.ensures
    (ap is_idle (sym c.phase.ensures) ∙ sym c.is_idle.ensures ∙ c.if-not-is_idle.false))
