use Rattle.std.proofs.Common.{[], refl, rules}
use Rattle.run_list.proofs.Column.{no_numbers, is_column, column_is}
use Rattle.run_list.proofs.token_column.TokenColumn.new.Goals as goal

pub invariant_of-result : goal.invariant_of-result
invariant_of-result c = is_column _ _ _ _ (no_numbers _ _ _ (search rules) (search rules) refl)

pub returns : goal.returns
returns c = column_is c.new.result.items c.new-2.result.items 0 [] (no_numbers _ _ _ (search rules) (search rules) refl)
