use Rattle.mark_anchors.proofs.ChunkLemmas.{above_next}
use Rattle.mark_anchors.proofs.spot.spot_before.Goals as goal
use Rattle.std.proofs.Common.{arith}

pub returns-then-has_room : goal.returns-then-has_room
returns-then-has_room c = λ id below above. (omega arith, below, above_next c.args.chunks.now id c.args.n (omega arith) above)
