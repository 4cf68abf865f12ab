use Rattle.std.proofs.Common.{[], ◌∷◌}
use Rattle.mark_anchors.proofs.KeepLemmas.{insert_marks_none, kept_with, remove_marks_none}
use Rattle.mark_anchors.proofs.laws.inserts_and_removes_leave_the_marks.Goals as goal

pub returns-clause-insert : goal.returns-clause-insert
returns-clause-insert c = λ kept ops doc op origin value are fits is. kept_with kept ops (op ∷ []) doc (insert_marks_none op doc origin value is) are

pub returns-clause-remove : goal.returns-clause-remove
returns-clause-remove c = λ kept ops doc op target are fits is. kept_with kept ops (op ∷ []) doc (remove_marks_none op doc target is) are
