use Rattle.op_pieces.proofs.CutLemmas.{cut_longest}
use Rattle.op_pieces.proofs.laws.pieces_are_longest.Goals as goal

pub returns : goal.returns
returns c = cut_longest
