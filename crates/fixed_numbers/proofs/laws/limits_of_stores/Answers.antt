use Rattle.std.proofs.Common.{refl}
use Rattle.fixed_numbers.proofs.laws.limits_of_stores.Goals as goal

-- by computing
pub returns-clause-counters : goal.returns-clause-counters
returns-clause-counters c = refl

-- by computing
pub returns-clause-versions : goal.returns-clause-versions
returns-clause-versions c = refl

-- by computing
pub returns-clause-names : goal.returns-clause-names
returns-clause-names c = refl

-- by computing
pub returns-clause-operations : goal.returns-clause-operations
returns-clause-operations c = refl

-- by computing
pub returns-clause-bytes : goal.returns-clause-bytes
returns-clause-bytes c = refl

-- by computing
pub returns-clause-steps : goal.returns-clause-steps
returns-clause-steps c = refl
