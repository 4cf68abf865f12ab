use Rattle.change_codec.proofs.StreamLaws.{spelled_all-determines}
use Rattle.change_codec.proofs.laws.a_stream_determines_its_operations.Goals as goal

pub returns : goal.returns
returns c = spelled_all-determines
