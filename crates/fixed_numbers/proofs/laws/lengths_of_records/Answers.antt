use Rattle.std.proofs.Common.{refl}
use Rattle.fixed_numbers.proofs.laws.lengths_of_records.Goals as goal

-- by computing
pub returns-clause-range : goal.returns-clause-range
returns-clause-range c = refl

-- by computing
pub returns-clause-token : goal.returns-clause-token
returns-clause-token c = refl
