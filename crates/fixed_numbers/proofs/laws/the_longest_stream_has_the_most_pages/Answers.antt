use Rattle.std.proofs.Common.{refl}
use Rattle.fixed_numbers.proofs.laws.the_longest_stream_has_the_most_pages.Goals as goal

-- by computing
pub returns-clause-data : goal.returns-clause-data
returns-clause-data c = refl

-- by computing
pub returns-clause-tables : goal.returns-clause-tables
returns-clause-tables c = refl

-- by computing
pub returns-clause-live : goal.returns-clause-live
returns-clause-live c = refl

-- by computing
pub returns-clause-asked : goal.returns-clause-asked
returns-clause-asked c = refl
