use Rattle.recovery.proofs.FaultLemmas.{no_fault}
use Rattle.recovery.proofs.laws.a_file_with_an_image_has_no_fault.Goals as goal

pub returns : goal.returns
returns c = no_fault
