use Rattle.piece_codec.proofs.StreamLaws.{both_join}
use Rattle.piece_codec.proofs.stream_laws.streams_join.Goals as goal

pub returns : goal.returns
returns c = both_join
