use Rattle.model_laws.proofs.LastingOrder.{place_stays}
use Rattle.model_laws.proofs.lasting.places_stay_there.Goals as goal

pub returns : goal.returns
returns c = place_stays
