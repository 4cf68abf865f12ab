use Rattle.store_orders.proofs.CheckingLemmas.{refuses_memory, refuses_slots}
use Rattle.root_slots.specs.Faults.{failures_of}
use Rattle.store_orders.proofs.checking.found.Goals as goal

pub returns-in-Ok-clause-ok : goal.returns-in-Ok-clause-ok
returns-in-Ok-clause-ok g c = λ told. rw (c.in-Ok.ensures.report told) at c.check_line.ensures.ok

pub returns-in-Ok-clause-err : goal.returns-in-Ok-clause-err
returns-in-Ok-clause-err g c = λ told. refuses_memory c.check_line.result (g.D.DiskFacts.content c.args.disk.now) c.check_line.ensures.err

pub returns-in-Ok-clause-looks : goal.returns-in-Ok-clause-looks
returns-in-Ok-clause-looks g c = (0, c.in-Ok.ensures.looks)

pub returns-in-Err-clause-err : goal.returns-in-Err-clause-err
returns-in-Err-clause-err g c = λ told.
    refuses_slots c.in-Err.error c.from.result c.from-in-Err.result (g.D.DiskFacts.content c.args.disk.now) c.from.ensures c.from-in-Err.ensures
    (c.in-Err.ensures.fault told)

pub returns-in-Err-clause-looks : goal.returns-in-Err-clause-looks
returns-in-Err-clause-looks g c = (failures_of c.in-Err.error, c.in-Err.ensures.looks)
