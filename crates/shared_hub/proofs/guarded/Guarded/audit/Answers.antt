use Rattle.shared_hub.proofs.MetLemmas.{settled_there}
use Rattle.shared_hub.proofs.guarded.Guarded.audit.Goals as goal

-- the moments of the pass's book are in the past
pub returns-clause-past : goal.returns-clause-past
returns-clause-past g c =
    rw (← c.self.view_is) (c.self.invariant.moments c.args.pass.now.number c.args.pass.now.moments c.audit.ensures.moments)

-- and as many operations were settled at each as after a meeting
pub returns-clause-settled : goal.returns-clause-settled
returns-clause-settled g c =
    rw (← c.self.view_is) (settled_there c.self.inside.locked c.self.inside.books.moments c.args.pass.now.number c.args.pass.now.moments
    c.self.invariant.met c.audit.ensures.moments)
