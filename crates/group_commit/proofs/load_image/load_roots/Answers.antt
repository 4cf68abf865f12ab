use Rattle.group_commit.proofs.Faults.{names_stored, failures_same}
use Rattle.group_commit.proofs.load_image.load_roots.Goals as goal

pub returns-in-Err-clause-fault : goal.returns-in-Err-clause-fault
returns-in-Err-clause-fault g c = λ told.
    rw (c.from.ensures) (names_stored c.in-Err.error (g.D.DiskFacts.content c.args.disk.now) (c.in-Err.ensures.fault told))

pub returns-in-Err-clause-looks : goal.returns-in-Err-clause-looks
returns-in-Err-clause-looks g c = record {
  looks = λ told. rw (c.from.ensures, failures_same c.in-Err.error) (c.in-Err.ensures.looks.looks told);
  tells = c.in-Err.ensures.looks.tells;
}
