use Rattle.recovery.proofs.ImageLemmas.{empty_image}
use Rattle.recovery.proofs.laws.a_new_store_is_empty.Goals as goal

pub returns : goal.returns
returns c = empty_image
