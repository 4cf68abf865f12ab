use Rattle.piece_codec.proofs.StreamLaws.{one_piece}
use Rattle.piece_codec.proofs.stream_laws.a_piece_spells_its_operations.Goals as goal

pub returns : goal.returns
returns c = one_piece
