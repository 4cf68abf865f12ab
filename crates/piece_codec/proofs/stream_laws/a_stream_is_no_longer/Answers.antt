use Rattle.piece_codec.proofs.StreamLaws.{no_longer}
use Rattle.piece_codec.proofs.stream_laws.a_stream_is_no_longer.Goals as goal

pub returns : goal.returns
returns c = no_longer
