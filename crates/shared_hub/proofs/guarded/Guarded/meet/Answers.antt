use Rattle.std.proofs.Common.{rules, refl}
use Rattle.hub_parts.specs.Fitting.{side_of}
use Rattle.shared_hub.specs.Committing.{meetings_of, with_met}
use Rattle.shared_hub.proofs.GoingLemmas.{goes_nowhere, meeting_goes}
use Rattle.shared_hub.proofs.MetLemmas.{meets_on, newest_fits}
use Rattle.shared_hub.proofs.MomentLemmas.{books_met}
use Rattle.shared_hub.proofs.guarded.Guarded.meet.Goals as goal

-- the moment is entered
pub invariant_of-self : goal.invariant_of-self
invariant_of-self g c =
    let kept = c.committer.invariant in
    let there = rw kept.number at c.audit.ensures.moments in
    rw (c.enter.ensures.books, c.audit.ensures.pass, c.audit.ensures.books, kept.number)
    (books_met g.D.DiskFacts c.self.inside.locked c.committer.inside.flusher c.meet-result.result c.meet-result.new.locked c.meet-result.new.self
    c.self.inside.books c.committer.inside.pass.moments c.kept.ensures c.kept-4.ensures c.self.invariant c.meet-result.ensures.met.leaves there)

-- what commits fits what it left
pub invariant_of-committer : goal.invariant_of-committer
invariant_of-committer g c =
    let facts = g.D.DiskFacts in
    let old = c.committer.inside in
    let kept = c.committer.invariant in
    let there = rw (kept.number, kept.moments) at c.audit.ensures.moments in
    let fits = newest_fits c.self.inside.locked c.self.inside.books.moments (meetings_of old.pass.moments old.met) (side_of old.flusher) c.self.invariant.met there kept.newest in
    let goes = meeting_goes facts c.self.inside.locked old.flusher c.meet-result.result c.meet-result.new.locked c.meet-result.new.self
    (λ disk told. g.met.D.Disk.lawful disk told) c.kept-2.ensures c.meet-result.ensures.met.leaves in
    rw (c.enter.ensures.pass, c.audit.ensures.pass, c.note.ensures)
    (meets_on facts (with_met old.flusher old.pass old.met) c.meet-result.new.locked c.meet-result.new.self kept
    c.kept-4.ensures (c.meet-result.ensures.fits fits) goes
    (goes_nowhere facts c.meet-result.new.self c.meet-result.new.self (λ disk told. g.met.D.Disk.lawful disk told) c.kept-3.ensures refl))

-- what the flusher's own meeting makes of both
pub returns : goal.returns
returns g c =
    let facts = g.D.DiskFacts in
    let old = c.committer.inside in
    let kept = c.committer.invariant in
    let there = rw (kept.number, kept.moments) at c.audit.ensures.moments in
    let fits = newest_fits c.self.inside.locked c.self.inside.books.moments (meetings_of old.pass.moments old.met) (side_of old.flusher) c.self.invariant.met there kept.newest in
    rw (← c.self.view_is, ← c.committer.view_is) (record {
      meets = record {
        sound_before = c.kept.ensures;
        sound = search rules;
        meets = c.meet-result.ensures.met;
        goes = meeting_goes facts c.self.inside.locked old.flusher c.meet-result.result c.meet-result.new.locked c.meet-result.new.self
            (λ disk told. g.met.D.Disk.lawful disk told) c.kept-2.ensures c.meet-result.ensures.met.leaves;
        fits_before = fits;
        fits = c.meet-result.ensures.fits fits;
      };
      entered = search rules;
      others = search rules;
    })
