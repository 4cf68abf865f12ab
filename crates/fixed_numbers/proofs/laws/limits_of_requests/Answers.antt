use Rattle.std.proofs.Common.{refl}
use Rattle.fixed_numbers.proofs.laws.limits_of_requests.Goals as goal

-- by computing
pub returns-clause-edits : goal.returns-clause-edits
returns-clause-edits c = refl

-- by computing
pub returns-clause-lines : goal.returns-clause-lines
returns-clause-lines c = refl

-- by computing
pub returns-clause-spans : goal.returns-clause-spans
returns-clause-spans c = refl

-- by computing
pub returns-clause-frames : goal.returns-clause-frames
returns-clause-frames c = refl
