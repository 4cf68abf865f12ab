use Rattle.op_pieces.proofs.TypedLemmas.{typed_run}
use Rattle.op_pieces.proofs.laws.an_insert_makes_one_piece.Goals as goal

pub returns : goal.returns
returns c = typed_run
