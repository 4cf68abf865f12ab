use Rattle.shared_hub.proofs.MomentLemmas.{books_entered}
use Rattle.shared_hub.proofs.guarded.Guarded.enter.Goals as goal

-- this moment is in its own past
pub invariant_of-self : goal.invariant_of-self
invariant_of-self g c =
    rw (c.enter.ensures.books, c.audit.ensures.pass, c.audit.ensures.books)
    (books_entered c.self.inside.locked c.self.inside.books c.args.pass.now c.self.invariant c.kept.ensures c.audit.ensures.moments)
