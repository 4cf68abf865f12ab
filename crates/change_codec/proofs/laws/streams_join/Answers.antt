use Rattle.change_codec.proofs.StreamLaws.{spelled_all-append}
use Rattle.change_codec.proofs.laws.streams_join.Goals as goal

pub returns : goal.returns
returns c = spelled_all-append
