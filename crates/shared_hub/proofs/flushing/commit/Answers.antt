use Rattle.shared_hub.proofs.GoingLemmas.{goes_behind}
use Rattle.shared_hub.proofs.flushing.commit.Goals as goal

-- one has begun, goes through and is settled
pub returns : goal.returns
returns g c =
    let f = c.args.committer.now.flusher in
    let begun = c.begin.new.committer.flusher in
    goes_behind g.D.DiskFacts f begun c.settle.new.committer.flusher c.begin.ensures
    (goes_behind g.D.DiskFacts begun c.go_through.new.committer.flusher c.settle.new.committer.flusher c.go_through.ensures c.settle.ensures.meets.goes)

-- or isn't, since the device has failed
pub returns-then-is_err : goal.returns-then-is_err
returns-then-is_err g c =
    let f = c.args.committer.now.flusher in
    let begun = c.begin.new.committer.flusher in
    goes_behind g.D.DiskFacts f begun c.settle.new.committer.flusher c.begin.ensures
    (goes_behind g.D.DiskFacts begun c.go_through.new.committer.flusher c.settle.new.committer.flusher c.go_through.ensures c.settle.ensures.meets.goes)
