use Rattle.model_laws.proofs.LastingPlaces.{at_before, at_after}
use Rattle.model_laws.proofs.lasting.places_stand_beside_their_character.Goals as goal

pub returns-clause-before : goal.returns-clause-before
returns-clause-before c = at_before

pub returns-clause-after : goal.returns-clause-after
returns-clause-after c = at_after
