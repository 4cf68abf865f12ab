use Rattle.change_codec.proofs.RecordLaws.{spelled_taken}
use Rattle.change_codec.proofs.laws.spelled_is_read.Goals as goal

pub returns : goal.returns
returns c = spelled_taken
