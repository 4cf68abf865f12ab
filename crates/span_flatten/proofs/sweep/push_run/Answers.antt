use Rattle.span_flatten.proofs.BackLemmas.{runs_begun}
use Rattle.span_flatten.proofs.sweep.push_run.Goals as goal

pub returns : goal.returns
returns c =
    runs_begun c.args.runs.now.items c.push.new.self.items c.args.value (record { values = c.in_ok-values.values; marks = c.args.marks })
    c.in_ok-push.ensures.items c.in_ok-values.ensures.items
