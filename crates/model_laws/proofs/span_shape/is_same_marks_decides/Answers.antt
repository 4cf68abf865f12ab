use Rattle.model_laws.proofs.Runs.{marks_decided}
use Rattle.model_laws.proofs.span_shape.is_same_marks_decides.Goals as goal

pub returns : goal.returns
returns c = marks_decided
