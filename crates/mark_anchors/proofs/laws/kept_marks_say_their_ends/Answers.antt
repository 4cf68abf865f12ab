use Rattle.mark_anchors.proofs.EndLemmas.{kept_say_ends}
use Rattle.mark_anchors.proofs.laws.kept_marks_say_their_ends.Goals as goal

pub returns : goal.returns
returns c = kept_say_ends
