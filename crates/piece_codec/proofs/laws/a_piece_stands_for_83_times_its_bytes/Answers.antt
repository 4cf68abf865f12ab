use Rattle.piece_codec.proofs.Shares.{at_most_83}
use Rattle.piece_codec.proofs.laws.a_piece_stands_for_83_times_its_bytes.Goals as goal

pub returns : goal.returns
returns c = at_most_83
