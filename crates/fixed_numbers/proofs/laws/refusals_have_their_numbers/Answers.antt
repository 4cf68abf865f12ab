use Rattle.std.proofs.Common.{refl}
use Rattle.fixed_numbers.proofs.laws.refusals_have_their_numbers.Goals as goal

-- by computing
pub returns-clause-sessions : goal.returns-clause-sessions
returns-clause-sessions c = refl

-- by computing
pub returns-clause-merges : goal.returns-clause-merges
returns-clause-merges c = refl

-- by computing
pub returns-clause-links : goal.returns-clause-links
returns-clause-links c = refl

-- by computing
pub returns-clause-records : goal.returns-clause-records
returns-clause-records c = refl

-- by computing
pub returns-clause-files : goal.returns-clause-files
returns-clause-files c = refl

-- by computing
pub returns-clause-devices : goal.returns-clause-devices
returns-clause-devices c = refl

-- by computing
pub returns-clause-others : goal.returns-clause-others
returns-clause-others c = refl
