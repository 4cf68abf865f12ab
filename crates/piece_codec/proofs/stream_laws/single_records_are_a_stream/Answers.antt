use Rattle.piece_codec.proofs.StreamLaws.{single_records}
use Rattle.piece_codec.proofs.stream_laws.single_records_are_a_stream.Goals as goal

pub returns : goal.returns
returns c = single_records
