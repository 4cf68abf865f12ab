use Rattle.piece_codec.proofs.PieceLaws.{piece_begins}
use Rattle.piece_codec.proofs.laws.read_is_spelled.Goals as goal

pub returns : goal.returns
returns c = piece_begins
