use Rattle.piece_codec.proofs.StreamOperations.{stream_operations}
use Rattle.piece_codec.proofs.stream_laws.a_stream_spells_operations_of_its_format.Goals as goal

pub returns : goal.returns
returns c = stream_operations
