use Rattle.op_model.specs.Held.{settled_list}
use Rattle.op_model.specs.Telling.{reach}
use Rattle.shared_hub.proofs.MomentLemmas.{books_told}
use Rattle.shared_hub.proofs.guarded.Guarded.tell.Goals as goal

-- the books are as they were
pub invariant_of-self : goal.invariant_of-self
invariant_of-self g c =
    let l = c.self.inside.locked in
    books_told c.tell-result.result l c.tell-result.new.self c.self.inside.books (reach c.args.clock.now (settled_list l.replica))
    c.self.invariant c.tell-result.ensures.made c.tell-result.ensures.same c.tell-result.ensures.fits
