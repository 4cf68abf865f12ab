use Rattle.op_pieces.proofs.CutLemmas.{cut_joined}
use Rattle.op_pieces.proofs.laws.pieces_make_up_the_operations.Goals as goal

pub returns : goal.returns
returns c = cut_joined
