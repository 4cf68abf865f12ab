use Rattle.std.proofs.Common.{ap}
use Rattle.shared_hub.proofs.GoingLemmas.{goes_nowhere, goes_behind}
use Rattle.shared_hub.proofs.flushing.try_once.Goals as goal

-- there was no room, and nothing was done
pub returns-then-is_err : goal.returns-then-is_err
returns-then-is_err g c =
    goes_nowhere g.D.DiskFacts c.args.committer.now.flusher c.reserve.new.self.flusher (λ disk told. g.met.D.Disk.lawful disk told) c.kept.ensures
    (ap (λ committer. committer.flusher) c.reserve.ensures)

-- room is made, and then it meets
pub returns : goal.returns
returns g c =
    goes_behind g.D.DiskFacts c.args.committer.now.flusher c.reserve.new.self.flusher c.begin.new.committer.flusher
    (goes_nowhere g.D.DiskFacts c.args.committer.now.flusher c.reserve.new.self.flusher (λ disk told. g.met.D.Disk.lawful disk told) c.kept.ensures
    (ap (λ committer. committer.flusher) c.reserve.ensures)) c.begin.ensures.meets.goes
