use Rattle.std.proofs.Common.{refl}
use Rattle.shared_hub.proofs.GoingLemmas.{goes_nowhere}
use Rattle.shared_hub.proofs.MetLemmas.{first_meeting}
use Rattle.shared_hub.proofs.committer.Committer.new.Goals as goal

-- it fits what it met
pub invariant_of-result : goal.invariant_of-result
invariant_of-result g c =
    rw (c.note.ensures, c.requires.none) (first_meeting g.D.DiskFacts c.args.pass c.args.locked.now c.args.flusher c.requires.number c.requires.moment
    c.kept.ensures c.requires.fits (goes_nowhere g.D.DiskFacts c.args.flusher c.args.flusher (λ disk told. g.met.D.Disk.lawful disk told) c.kept-2.ensures refl))
