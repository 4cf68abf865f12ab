use Rattle.std.proofs.Common.{refl}
use Rattle.fixed_numbers.proofs.laws.pages_are_full.Goals as goal

-- by computing
pub returns-clause-page : goal.returns-clause-page
returns-clause-page c = refl

-- by computing
pub returns-clause-slots : goal.returns-clause-slots
returns-clause-slots c = refl

-- by computing
pub returns-clause-body : goal.returns-clause-body
returns-clause-body c = refl

-- by computing
pub returns-clause-entries : goal.returns-clause-entries
returns-clause-entries c = refl
