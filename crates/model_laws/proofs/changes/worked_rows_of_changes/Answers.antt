use Rattle.std.proofs.Common.{refl}
use Rattle.op_ids.specs.Id.{is_below, is_same}
use Rattle.model_laws.proofs.changes.worked_rows_of_changes.Goals as goal

pub returns : goal.returns
unfolding is_below is_same
returns c = record { typed_and_removed = refl; marked_and_typed = refl; removed_again = refl; typed_elsewhere = refl; all_at_once = refl }
