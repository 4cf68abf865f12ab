use Rattle.shared_hub.proofs.PromiseLemmas.{promise_made, promise_acknowledged, promise_told, promise_counted}
use Rattle.shared_hub.proofs.promises.what_was_promised_is_settled.Goals as goal

pub returns : goal.returns
returns c = record { made = promise_made; acknowledged = promise_acknowledged; told = promise_told; counted = promise_counted }
