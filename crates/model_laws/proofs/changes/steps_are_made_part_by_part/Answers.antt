use Rattle.model_laws.proofs.PushedStep.{steps-push, steps-append}
use Rattle.model_laws.proofs.changes.steps_are_made_part_by_part.Goals as goal

pub returns : goal.returns
returns c = record { one_more = steps-push; parts = steps-append }
