use Rattle.change_codec.proofs.RecordLaws.{taken_begins}
use Rattle.change_codec.proofs.laws.read_is_spelled.Goals as goal

pub returns : goal.returns
returns c = taken_begins
