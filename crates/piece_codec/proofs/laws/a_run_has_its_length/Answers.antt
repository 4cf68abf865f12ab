use Rattle.piece_codec.proofs.LengthLaws.{run_has_length}
use Rattle.piece_codec.proofs.laws.a_run_has_its_length.Goals as goal

pub returns : goal.returns
returns c = run_has_length
