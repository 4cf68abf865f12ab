use Rattle.std.proofs.Common.{arith, ap, length}
use Rattle.op_pieces.proofs.PieceLemmas.{length-typed}
use Rattle.op_pieces.proofs.piece.Piece.len.Goals as goal

pub returns-clause-value : goal.returns-clause-value
returns-clause-value c =
    let p = c.args.self.now in
    omega (arith, length-typed p.first p.others, ap length c.others.ensures.same)
