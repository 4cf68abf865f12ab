use Rattle.std.proofs.Common.{[], ◌∷◌}
use Rattle.mark_anchors.proofs.KeepLemmas.{kept_with, other_marks_none}
use Rattle.mark_anchors.proofs.laws.other_documents_leave_the_marks.Goals as goal

pub returns : goal.returns
returns c = λ kept ops doc op are other. kept_with kept ops (op ∷ []) doc (other_marks_none op doc other) are
