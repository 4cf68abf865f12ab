use Rattle.shared_hub.proofs.MomentLemmas.{books_told}
use Rattle.shared_hub.proofs.guarded.Guarded.have.Goals as goal

-- the books are as they were
pub invariant_of-self : goal.invariant_of-self
invariant_of-self g c =
    let l = c.self.inside.locked in
    books_told c.have-result.result l c.have-result.new.self c.self.inside.books l.replica.settled
    c.self.invariant c.have-result.ensures.made c.have-result.ensures.same c.have-result.ensures.fits
