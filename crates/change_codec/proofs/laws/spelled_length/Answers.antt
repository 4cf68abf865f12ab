use Rattle.change_codec.proofs.Lengths.{length_spelled}
use Rattle.change_codec.proofs.laws.spelled_length.Goals as goal

pub returns : goal.returns
returns c = length_spelled
