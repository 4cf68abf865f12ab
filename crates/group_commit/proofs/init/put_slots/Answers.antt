use Rattle.std.proofs.lemmas.Result.{on_ok_weaker}
use Rattle.group_commit.proofs.NewFileLemmas.{put_both, made_by}
use Rattle.group_commit.proofs.Stopped.{second_put, second_counts}
use Rattle.group_commit.proofs.init.put_slots.Goals as goal

pub returns-clause-made : goal.returns-clause-made
returns-clause-made g c = λ told.
    let mid = c.in_ok-put.ensures.writes.tells.1 told in
    made_by g.D.DiskFacts c.put-2.result _ 2 0 c.args.disk.now c.put-2.new.disk
    (on_ok_weaker c.put-2.result
    (put_both _ _ _ c.args.first.now c.args.second.now (c.requires.empty told) (c.in_ok-put.ensures.writes.writes told).written c.requires.size)
    (c.put-2.ensures.writes.writes mid).written)
    (second_counts g.D.DiskFacts c.put-2.result c.args.disk.now c.put.new.disk c.put-2.new.disk (c.in_ok-put.ensures.writes.writes told).call (c.put-2.ensures.writes.writes mid).call)

pub returns-clause-partly : goal.returns-clause-partly
returns-clause-partly g c = λ told.
    second_put g.D.DiskFacts c.put-2.result c.args.first.now c.args.second.now c.args.disk.now c.put.new.disk c.put-2.new.disk (c.requires.empty told)
    c.requires.size (c.in_ok-put.ensures.writes.writes told).call (c.in_ok-put.ensures.writes.writes told).written (c.put-2.ensures.writes.writes (c.in_ok-put.ensures.writes.tells.1 told))
