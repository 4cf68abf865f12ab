use Rattle.recovery.proofs.ImageLemmas.{one_image}
use Rattle.recovery.proofs.laws.a_file_has_one_image.Goals as goal

pub returns : goal.returns
returns c = one_image
