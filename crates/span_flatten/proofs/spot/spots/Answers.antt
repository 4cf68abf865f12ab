use Rattle.std.proofs.Common.{◌≡◌, ◌+◌, [], ◌∷◌, ◌++◌, take, ap, sym, ◌∙◌}
use Rattle.std.proofs.lemmas.List.{take_more}
use Rattle.span_flatten.proofs.SpotLemmas.{spots_push}
use Rattle.span_flatten.proofs.spot.spots.Goals as goal

pub loop-marking-preserved : goal.loop-marking-preserved
loop-marking-preserved c =
    let ms = c.args.markings.now in
    let k = c.loop-marking.marking-index in
    let more : take (k + 1) ms ≡ take k ms ++ c.marking-item.result ∷ [] =
    take_more ms k c.marking-item.result c.loop-marking-test.true ∙ ap (λ d. take k ms ++ d ∷ []) (sym c.marking-item.is) in
    rw (c.in_ok-push.ensures.items, more) (spots_push c.args.sequence.now c.loop-marking.spots.items (take k ms) c.spot_of.result c.marking-item.result
    c.loop-marking.invariant (record { from = c.spot_of.ensures.from; to = c.spot_of.ensures.to }))
