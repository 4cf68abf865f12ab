use Rattle.std.proofs.Common.{[], rules}
use Rattle.run_list.proofs.Holding.{holds_empty}
use Rattle.run_list.proofs.Unrolling.{are_runs, held_is}
use Rattle.run_list.proofs.bare_list.BareList.new.Goals as goal

pub invariant_of-result : goal.invariant_of-result
invariant_of-result c = are_runs _ _ _ _ (holds_empty _ _ _ (search rules) (search rules) (search rules))

pub returns : goal.returns
returns c = held_is c.new.result.items c.new-2.result c.new-3.result.items [] (holds_empty _ _ _ (search rules) (search rules) (search rules))
