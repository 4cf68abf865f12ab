use Rattle.change_codec.proofs.StreamLaws.{length-spelled_all}
use Rattle.change_codec.proofs.laws.a_stream_has_its_length.Goals as goal

pub returns : goal.returns
returns c = length-spelled_all
