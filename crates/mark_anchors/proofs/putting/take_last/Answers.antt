use Rattle.std.proofs.Common.{◌≡◌, ◌+◌, ◌-◌, ◌<◌, Bool, true, false, List, [], length, ◌∙◌, arith}
use Rattle.std.specs.Prelude.{nat_eq}
use Rattle.std.proofs.lemmas.Bool.Decides.{nat_tests}
use Rattle.mark_anchors.specs.declared.edge.Edge.{Edge}
use Rattle.std.proofs.lemmas.List.{get_or_read}
use Rattle.mark_anchors.specs.EdgeChunks.{edges_in}
use Rattle.mark_anchors.proofs.ChunkLemmas.{order_read, some_at}
use Rattle.mark_anchors.proofs.TakeLemmas.{left_chunks, left_edges_of, fewer_chunks, fewer_edges, not_put}
use Rattle.mark_anchors.proofs.putting.take_last.Goals as goal

-- what a test for emptiness says
none_left : (es : List Edge) (r : Bool) → r ≡ nat_eq (length es) 0 → r ≡ true → length es ≡ 0
none_left es r is passes = grind (arith, nat_tests)

some_left : (es : List Edge) (r : Bool) → r ≡ nat_eq (length es) 0 → r ≡ false → 0 < length es
some_left es r is fails = grind (arith, nat_tests)

pub returns-then-n-eq0-clause-back : goal.returns-then-n-eq0-clause-back
returns-then-n-eq0-clause-back c = λ e es own put.
    let above = rw (c.if-n-eq0.true, c.deref.ensures.value) at c.chunks_to-n.ensures.above in
    absurd (not_put c.args.id e es (edges_in c.args.chunks.now.items) above own put)

pub take_last-requires-clause-order : goal.take_last-requires-clause-order
take_last-requires-clause-order c =
    let bound = rw c.deref.ensures.value at c.chunks_to-n.ensures.bound in
    order_read c.args.chunks.now.items (c.chunks_to-n.result - 1) c.index_mut-chunk.result.now c.requires (omega arith) c.index_mut-chunk.ensures.value

pub take_last-requires-clause-some : goal.take_last-requires-clause-some
take_last-requires-clause-some c =
    let ks = c.args.chunks.now.items in
    let bound = rw c.deref.ensures.value at c.chunks_to-n.ensures.bound in
    let within : c.chunks_to-n.result - 1 < length ks = omega arith in
    rw (get_or_read ks (c.chunks_to-n.result - 1) c.index_mut-chunk.result.now within c.index_mut-chunk.ensures.value [])
    (some_at ks (c.chunks_to-n.result - 1) c.requires within)

pub returns-else-is_empty-clause-chunks : goal.returns-else-is_empty-clause-chunks
returns-else-is_empty-clause-chunks c =
    let ks = c.args.chunks.now.items in
    let bound = rw c.deref.ensures.value at c.chunks_to-n.ensures.bound in
    left_chunks ks (c.chunks_to-n.result - 1) c.take_last.ensures.place c.index_mut-chunk.result.now c.take_last.new.self c.requires (omega arith)
    c.index_mut-chunk.ensures.value c.take_last.ensures.within c.take_last.ensures.rest
    (some_left c.take_last.new.self c.is_empty.result (rw c.edges.ensures at c.is_empty.ensures) c.if-is_empty.false)

pub returns-else-is_empty-clause-back : goal.returns-else-is_empty-clause-back
returns-else-is_empty-clause-back c = λ e es own put.
    left_edges_of c.args.chunks.now.items c.deref.result.now c.args.id c.chunks_to-n.result c.index_mut-chunk.result.now c.take_last.new.self es e
    c.deref.ensures.value (omega arith) c.chunks_to-n.ensures.bound c.index_mut-chunk.ensures.value c.take_last.ensures c.chunks_to-n.ensures.below
    c.chunks_to-n.ensures.above own put

pub returns-then-is_empty-clause-chunks : goal.returns-then-is_empty-clause-chunks
returns-then-is_empty-clause-chunks c =
    let ks = c.args.chunks.now.items in
    let bound = rw c.deref.ensures.value at c.chunks_to-n.ensures.bound in
    rw c.remove.ensures.items (fewer_chunks ks (c.chunks_to-n.result - 1) c.take_last.new.self c.requires (omega arith))

pub returns-then-is_empty-clause-back : goal.returns-then-is_empty-clause-back
returns-then-is_empty-clause-back c = λ e es own put.
    let ks = c.args.chunks.now.items in
    let bound = rw c.deref.ensures.value at c.chunks_to-n.ensures.bound in
    let none = none_left c.take_last.new.self c.is_empty.result (rw c.edges.ensures at c.is_empty.ensures) c.if-is_empty.true in
    rw c.remove.ensures.items
    (fewer_edges ks (c.chunks_to-n.result - 1) c.take_last.new.self (omega arith) none
    ∙ left_edges_of ks c.deref.result.now c.args.id c.chunks_to-n.result c.index_mut-chunk.result.now c.take_last.new.self es e c.deref.ensures.value
    (omega arith) c.chunks_to-n.ensures.bound c.index_mut-chunk.ensures.value c.take_last.ensures c.chunks_to-n.ensures.below c.chunks_to-n.ensures.above own
    put)
