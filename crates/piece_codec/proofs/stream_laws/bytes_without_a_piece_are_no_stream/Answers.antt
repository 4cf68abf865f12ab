use Rattle.piece_codec.proofs.StreamLaws.{no_list}
use Rattle.piece_codec.proofs.stream_laws.bytes_without_a_piece_are_no_stream.Goals as goal

pub returns : goal.returns
returns c = no_list
