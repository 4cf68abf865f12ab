use Rattle.piece_codec.proofs.LengthLaws.{piece_no_longer}
use Rattle.piece_codec.proofs.laws.a_piece_is_no_longer.Goals as goal

pub returns : goal.returns
returns c = piece_no_longer
