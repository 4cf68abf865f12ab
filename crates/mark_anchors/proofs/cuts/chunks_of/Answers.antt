use Rattle.std.proofs.Common.{length-drop, drop, take, ◌∙◌, ap, arith}
use Rattle.std.proofs.lemmas.List.{drop-drop, take_rest}
use Rattle.mark_anchors.proofs.CutLemmas.{grown, grown_apart, grown_edges, order_rest}
use Rattle.mark_anchors.proofs.cuts.chunks_of.Goals as goal

pub loop-from-preserved : goal.loop-from-preserved
loop-from-preserved c =
    let ks = c.loop-from.chunks.items in
    let left = drop c.loop-from.from c.args.edges.now in
    let n = c.first_chunk-len.result in
    let rest = take_rest c.args.edges.now c.loop-from.from in
    let one = c.in_ok-of.ensures ∙ ap (λ es. take n es) rest in
    let more = c.in_ok-push.ensures.items in
    let next = drop-drop n c.loop-from.from c.args.edges.now in
    let within = rw rest at c.first_chunk-len.ensures.within in
    let apart = rw rest at c.first_chunk-len.ensures.apart in
    record {
      within = let long = length-drop c.loop-from.from c.args.edges.now in omega arith;
      edges = rw (more, one, ← next) (grown_edges ks left n ∙ c.loop-from.invariant.edges);
      chunks = rw (more, one) (grown ks left n c.loop-from.invariant.chunks (order_rest c.args.edges.now c.loop-from.from c.requires) c.loop-from.invariant.apart
          c.first_chunk-len.ensures.some within apart);
      apart = rw (more, one, ← next) (grown_apart ks left n c.loop-from.invariant.apart apart);
    }
