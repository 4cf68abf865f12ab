use Rattle.std.proofs.Common.{◌∙◌}
use Rattle.replica_core.proofs.merging.is_repeat.Goals as goal

pub returns : goal.returns
returns c = λ ops docs follows. c.removes_again.ensures ops (c.at.ensures.stands ops docs) (c.at.ensures.number ∙ c.new-empty.ensures.number) follows
