use Rattle.std.proofs.Common.{sym}
use Rattle.locked_replica.proofs.PartsFit.{hub_fits}
use Rattle.locked_replica.proofs.Recovering.{survivor_has, survivor_has_settled}
use Rattle.locked_replica.proofs.hub.Hub.survivors.Goals as goal

pub returns-clause-image : goal.returns-clause-image
returns-clause-image g c =
    let fits = hub_fits g.D.DiskFacts c.self.inside.locked c.self.inside.flusher c.kept.ensures c.kept-2.ensures c.self.invariant in
    rw (sym c.self.view_is) (λ told file survives. survivor_has g.D.DiskFacts _ file fits told survives)

pub returns-clause-settled : goal.returns-clause-settled
returns-clause-settled g c =
    let fits = hub_fits g.D.DiskFacts c.self.inside.locked c.self.inside.flusher c.kept.ensures c.kept-2.ensures c.self.invariant in
    rw (sym c.self.view_is) (λ told file survives. survivor_has_settled g.D.DiskFacts _ file fits told survives)

pub returns-clause-root : goal.returns-clause-root
returns-clause-root g c =
    let fits = hub_fits g.D.DiskFacts c.self.inside.locked c.self.inside.flusher c.kept.ensures c.kept-2.ensures c.self.invariant in
    rw (sym c.self.view_is) fits.left
