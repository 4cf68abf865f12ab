use Rattle.hub_parts.specs.Fitting.{side_of}
use Rattle.shared_hub.specs.Committing.{meetings_of}
use Rattle.shared_hub.proofs.MetLemmas.{newest_fits}
use Rattle.shared_hub.proofs.guarded.Guarded.audit_committer.Goals as goal

-- the flusher fits what its newest meeting left, so it fits what stands under the lock
pub returns-clause-turn : goal.returns-clause-turn
returns-clause-turn g c =
    let old = c.committer.inside in
    let kept = c.committer.invariant in
    let met = meetings_of old.pass.moments old.met in
    let there = rw (kept.number, kept.moments) at c.audit.ensures.moments in
    rw (← c.self.view_is, ← c.committer.view_is) (record {
      locked = c.kept.ensures;
      flusher = c.kept-2.ensures;
      committer = kept;
      fits = newest_fits c.self.inside.locked c.self.inside.books.moments met (side_of old.flusher) c.self.invariant.met there kept.newest;
    })

-- and book 0 has the moments of its pass
pub returns-clause-book : goal.returns-clause-book
returns-clause-book g c = rw (← c.self.view_is, ← c.committer.view_is) (rw c.committer.invariant.number at c.audit.ensures.moments)
