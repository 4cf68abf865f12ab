use Rattle.model_laws.proofs.Growth.{closed_push, closed_front, closed_rest}
use Rattle.model_laws.proofs.one_more.closed_lists_grow.Goals as goal

pub returns : goal.returns
returns c = record { grow = closed_push; front = closed_front; last = λ ops op h. (closed_rest ops _ h).0 }
