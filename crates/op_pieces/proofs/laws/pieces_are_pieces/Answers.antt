use Rattle.op_pieces.proofs.CutLemmas.{cut_pieces}
use Rattle.op_pieces.proofs.laws.pieces_are_pieces.Goals as goal

pub returns : goal.returns
returns c = cut_pieces
