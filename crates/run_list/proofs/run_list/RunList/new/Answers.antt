use Rattle.std.proofs.Common.{[], rules}
use Rattle.run_list.proofs.Telling.{nothing_told, are_told, told_is}
use Rattle.run_list.proofs.run_list.RunList.new.Goals as goal

pub invariant_of-result : goal.invariant_of-result
invariant_of-result c = are_told _ _ _ (nothing_told _ _ (search rules) (search rules))

pub returns : goal.returns
returns c = told_is c.new.result c.new-2.result [] (nothing_told _ _ (search rules) (search rules))
