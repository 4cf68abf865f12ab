use Rattle.root_slots.specs.Root.{version_of}
use Rattle.locked_replica.proofs.Promises.{recovered, refused_by}
use Rattle.locked_replica.proofs.laws.a_crash_keeps_what_was_promised.Goals as goal

pub returns-clause-recovered : goal.returns-clause-recovered
returns-clause-recovered g c = λ old new hub events k file crash image.
    recovered g.D.DiskFacts old new hub events k (version_of hub.store.current.body) file crash image

pub returns-clause-refused : goal.returns-clause-refused
returns-clause-refused g c = λ old new events k file cause crash fault. refused_by g.D.DiskFacts old new events k file cause crash fault
