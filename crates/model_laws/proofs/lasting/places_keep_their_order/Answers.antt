use Rattle.model_laws.proofs.LastingOrder.{order_stays, places_rise}
use Rattle.model_laws.proofs.lasting.places_keep_their_order.Goals as goal

pub returns-clause-numbers : goal.returns-clause-numbers
returns-clause-numbers c = order_stays

pub returns-clause-places : goal.returns-clause-places
returns-clause-places c = places_rise
