use Rattle.model_laws.proofs.Ended.{orderly_not_covered, made_not_covered}
use Rattle.model_laws.proofs.edits.ended_marks_dont_grow.Goals as goal

pub returns : goal.returns
returns c = record { orderly = orderly_not_covered; closed = made_not_covered }
