use Rattle.std.proofs.lemmas.Result.{IfOk-weaker}
use Rattle.group_commit.proofs.Stopped.{counts_then}
use Rattle.group_commit.proofs.init.begin_file.Goals as goal

pub returns-clause-made : goal.returns-clause-made
returns-clause-made g c = λ told.
    IfOk-weaker c.format.result _ _
    (λ roots file. record {
      made = file.made;
      counts = counts_then g.D.DiskFacts 0 0 0 0 3 2 c.args.disk.now c.check_empty.new.disk c.format.new.disk (c.in_ok-check_empty.ensures.counts told) file.counts;
    })
    (c.format.ensures.made (c.in_ok-check_empty.ensures.tells.1 told))
