use Rattle.placed_edits.proofs.PlacedLemmas.{asked_alone, outside}
use Rattle.placed_edits.proofs.laws.places_that_are_not_there_are_refused.Goals as goal

pub returns-clause-numbers : goal.returns-clause-numbers
returns-clause-numbers c = asked_alone

pub returns-clause-nowhere : goal.returns-clause-nowhere
returns-clause-nowhere c = outside
