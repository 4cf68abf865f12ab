use Rattle.model_laws.proofs.LastingPlaces.{at_made}
use Rattle.model_laws.proofs.lasting.places_stand_where_they_were_made.Goals as goal

pub returns : goal.returns
returns c = at_made
