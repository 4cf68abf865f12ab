use Rattle.model_laws.proofs.Runs.{spans_joined}
use Rattle.model_laws.proofs.span_shape.spans_make_up_the_text.Goals as goal

pub returns : goal.returns
returns c = spans_joined
