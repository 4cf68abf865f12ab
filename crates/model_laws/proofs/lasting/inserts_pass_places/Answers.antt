use Rattle.model_laws.proofs.TypedPlaces.{stays_before, stays_behind}
use Rattle.model_laws.proofs.lasting.inserts_pass_places.Goals as goal

pub returns-clause-previous : goal.returns-clause-previous
returns-clause-previous c = stays_before

pub returns-clause-next : goal.returns-clause-next
returns-clause-next c = stays_behind
