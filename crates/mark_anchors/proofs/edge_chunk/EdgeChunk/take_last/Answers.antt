use Rattle.std.proofs.Common.{arith}
use Rattle.mark_anchors.proofs.ChunkLemmas.{some_up_to}
use Rattle.mark_anchors.proofs.edge_chunk.EdgeChunk.take_last.Goals as goal

pub overflow_sub-behind : goal.overflow_sub-behind
overflow_sub-behind c =
    let place = rw (c.deref.ensures.value, c.self.view_is) at c.not_above-behind.ensures.place in
    let some = some_up_to c.args.self.now c.args.id c.not_above-behind.result c.requires.some c.requires.begins place in
    omega arith
