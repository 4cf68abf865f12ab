use Rattle.std.proofs.Common.{[], ◌∷◌, length, map, ap, arith}
use Rattle.op_model.specs.declared.span.Span.{Span}
use Rattle.span_flatten.specs.Listing.{listed}
use Rattle.span_flatten.specs.Sweeping.{forward_span}
use Rattle.span_flatten.proofs.ListedLemmas.{listed_begun}
use Rattle.span_flatten.proofs.sweep.begin_run.Goals as goal

pub returns-clause-few : goal.returns-clause-few
returns-clause-few c =
    let before = map forward_span c.args.runs.now.items in
    let begun = ap listed c.in_ok-push_run.ensures in
    let span : Span = record { text = c.args.value ∷ []; marks = c.args.marks } in
    let more = listed_begun before span in
    let count = ap length c.as_slice.ensures in
    omega (arith, begun, more, count, c.in_ok-count_down.ensures.counted)
