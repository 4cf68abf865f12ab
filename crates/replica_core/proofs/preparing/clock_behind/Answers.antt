use Rattle.std.proofs.Common.{◌∙◌}
use Rattle.replica_core.proofs.preparing.clock_behind.Goals as goal

pub count_all-requires : goal.count_all-requires
count_all-requires c = (c.requires.0, c.in_ok-behind.ensures ∙ c.requires.1, c.requires.2)

pub returns : goal.returns
returns c = λ earlier is. c.in_ok-count_all.ensures earlier (c.in_ok-behind.ensures ∙ is)
