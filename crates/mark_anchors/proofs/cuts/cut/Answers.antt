use Rattle.std.proofs.Common.{◌≡◌, [], get_or, length, sym, ◌∙◌, ap, subst, arith}
use Rattle.std.proofs.Math.ListN.{set}
use Rattle.std.proofs.lemmas.List.{get_or_read, take_rest}
use Rattle.mark_anchors.specs.EdgeChunks.{edges_in, AreChunks}
use Rattle.mark_anchors.specs.Edges.{AreInOrder}
use Rattle.mark_anchors.proofs.ChunkLemmas.{order_of, some_at}
use Rattle.mark_anchors.proofs.CutLemmas.{cut_made}
use Rattle.mark_anchors.proofs.cuts.cut.Goals as goal

-- the edges that are read are those of the chunk
read : (c : goal.After-edges-edges) → c.edges-edges.result.now ≡ get_or c.args.chunks.now.items c.args.i []
read c =
    c.edges-edges.ensures ∙ get_or_read c.args.chunks.now.items c.args.i c.index-2.result.now c.requires.inside c.index-2.ensures []

pub border-len-requires-clause-order : goal.border-len-requires-clause-order
border-len-requires-clause-order c = subst AreInOrder (sym (read c)) (order_of c.args.chunks.now.items c.args.i c.requires.chunks c.requires.inside)

pub border-len-requires-clause-inside : goal.border-len-requires-clause-inside
border-len-requires-clause-inside c =
    let some = some_at c.args.chunks.now.items c.args.i c.requires.chunks c.requires.inside in
    let long = ap length (read c) in
    omega arith

-- the chunks that are made of it
made : (c : goal.After-chunks-1) → AreChunks (set c.insert.new.self.items c.args.i c.truncate.new.self)
    × (edges_in (set c.insert.new.self.items c.args.i c.truncate.new.self) ≡ edges_in c.args.chunks.now.items)
made c =
    cut_made c.args.chunks.now.items c.insert.new.self.items c.args.i c.border-len.result c.edges-edges.result.now c.index_mut-chunk.result.now
    c.truncate.new.self c.in_ok-rest.rest c.requires.chunks c.requires.inside
    (c.edges-edges.ensures ∙ get_or_read c.args.chunks.now.items c.args.i c.index-2.result.now c.requires.inside c.index-2.ensures []) (c.in_ok-rest.ensures ∙ take_rest c.edges-edges.result.now c.border-len.result)
    c.in_ok-insert.ensures.items c.index_mut-chunk.ensures.value c.truncate.ensures c.border-len.ensures.some
    (let within = c.border-len.ensures.within in let other = c.if-len-edges.false in omega arith) c.border-len.ensures.apart

pub returns-clause-chunks : goal.returns-clause-chunks
returns-clause-chunks c = (made c).0

pub returns-clause-edges : goal.returns-clause-edges
returns-clause-edges c = (made c).1
