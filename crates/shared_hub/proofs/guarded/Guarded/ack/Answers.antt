use Rattle.shared_hub.proofs.MomentLemmas.{books_acked}
use Rattle.shared_hub.proofs.guarded.Guarded.ack.Goals as goal

-- the books are as they were
pub invariant_of-self : goal.invariant_of-self
invariant_of-self g c =
    books_acked c.ack-result.result c.self.inside.locked c.ack-result.new.self c.self.inside.books c.args.ticket.end c.self.invariant
    c.ack-result.ensures.acked c.ack-result.ensures.fits
