use Rattle.std.proofs.Common.{None, ap, ◌∙◌}
use Rattle.run_list.specs.Runs.{last_behind}
use Rattle.run_list.proofs.Parts.{last-more}
use Rattle.run_list.proofs.run_writer.RunWriter.put.Goals as goal

pub invariant_of-self-2 : goal.invariant_of-self-2
invariant_of-self-2 c = ap (last_behind None) c.in_ok-push_known.ensures.ok ∙ last-more None c.self.inside.list c.args.op
