use Rattle.model_laws.proofs.Runs.{spans_apart, spans_full}
use Rattle.model_laws.proofs.span_shape.spans_are_greatest_runs.Goals as goal

pub returns : goal.returns
returns c = record { apart = spans_apart; full = spans_full }
