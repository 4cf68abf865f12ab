use Rattle.recovery.specs.declared.open_fault.OpenFault.{OpenFault}
use Rattle.locked_replica.proofs.Recovering.{crash_recovered}
use Rattle.locked_replica.proofs.Reopened.{reopened, refused_well}
use Rattle.locked_replica.proofs.hub.Hub.reopen.Goals as goal

-- the file as it reads is one that a crash may leave
pub returns-clause-crash : goal.returns-clause-crash
returns-clause-crash g c = λ told.
    let file = g.D.DiskFacts.content c.args.self.store.disk in
    let crash = crash_recovered c.args.self file (c.survivors.ensures.image told file (g.met.D.Disk.lawful c.args.self.store.disk told).reads_survive) in
    let image = rw c.into_disk.ensures at c.open.ensures.image in
    reopened g.D.DiskFacts c.args.self c.open.result crash (image told) c.open.ensures.opened

pub returns-clause-fault : goal.returns-clause-fault
returns-clause-fault g c = λ told.
    let file = g.D.DiskFacts.content c.args.self.store.disk in
    let crash = crash_recovered c.args.self file (c.survivors.ensures.image told file (g.met.D.Disk.lawful c.args.self.store.disk told).reads_survive) in
    let fault = rw c.into_disk.ensures at c.open.ensures.fault in
    refused_well (λ (f : OpenFault g.row.D.Denot). f.cause) file _ _ _ c.open.result crash.image (fault told)

pub returns-clause-looks : goal.returns-clause-looks
returns-clause-looks g c = rw c.into_disk.ensures at c.open.ensures.looks

pub returns-clause-looks_refused : goal.returns-clause-looks_refused
returns-clause-looks_refused g c = rw c.into_disk.ensures at c.open.ensures.looks_refused
