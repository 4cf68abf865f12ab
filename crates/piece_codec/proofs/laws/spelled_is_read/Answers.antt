use Rattle.piece_codec.proofs.PieceLaws.{spelled_piece_taken}
use Rattle.piece_codec.proofs.laws.spelled_is_read.Goals as goal

pub returns : goal.returns
returns c = spelled_piece_taken
