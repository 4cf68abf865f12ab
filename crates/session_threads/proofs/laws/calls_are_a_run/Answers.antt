use Rattle.std.proofs.Common.{[]}
use Rattle.locked_replica.proofs.RunLemmas.{ran_none}
use Rattle.session_threads.proofs.RanLemmas.{ran_calls}
use Rattle.session_threads.proofs.laws.calls_are_a_run.Goals as goal

pub returns : goal.returns
returns g c = λ events new calls.
    ran_calls g.D.DiskFacts (λ disk told. g.met.D.Disk.lawful disk told) c.args.hub.now c.args.hub.now new [] events
    (ran_none g.D.DiskFacts c.args.hub.now (λ told. g.met.D.Disk.lawful c.args.hub.now.store.disk told) c.survivors.ensures.settled c.survivors.ensures.image) calls
