use Rattle.model_laws.proofs.Growth.{orderly_push, orderly_front}
use Rattle.model_laws.proofs.one_more.orderly_lists_grow.Goals as goal

pub returns : goal.returns
returns c = record { grow = orderly_push; front = orderly_front }
