use Rattle.std.proofs.Common.{◌≡◌, ◌+◌, length, take, add-one, ap, sym, ◌∙◌, arith}
use Rattle.std.specs.Prelude.{Err}
use Rattle.std.proofs.lemmas.Result.{IfOk-weaker, err_from_is_err_and}
use Rattle.span_flatten.specs.declared.error.SpansError.TheVariants.{Listing}
use Rattle.char_sequence.specs.Chunks.{cells_of}
use Rattle.mark_anchors.specs.Keeping.{in_order}
use Rattle.span_flatten.specs.Formatting.{marks_in}
use Rattle.span_flatten.specs.Covering.{covering}
use Rattle.span_flatten.specs.Listing.{listed}
use Rattle.span_flatten.specs.Reading.{offset}
use Rattle.span_flatten.specs.Runs.{cell_runs}
use Rattle.std.proofs.lemmas.List.{take_all}
use Rattle.span_flatten.proofs.HeldLemmas.{chunk_within, chunks_few, offset_all, offset_more, offset_within}
use Rattle.span_flatten.proofs.SpanLemmas.{spans_same}
use Rattle.span_flatten.proofs.flatten.spans_in.Goals as goal

pub loop-size-init : goal.loop-size-init
loop-size-init c = record {
  within = omega arith;
  swept = rw c.in_order.ensures at (c.in_ok-sweep.ensures (cells_of c.args.sequence.now));
  ticks = omega arith;
  rising = omega arith;
}

pub returns-in_err-pass_chunk-clause-ticks : goal.returns-in_err-pass_chunk-clause-ticks
returns-in_err-pass_chunk-clause-ticks c =
    let size = sym c.chunk.ensures.size ∙ c.in-Some.is in
    let there = chunk_within c.args.sequence.now c.loop-size.i c.in-Some.size size in
    let more = rw (← add-one) at (offset_more c.args.sequence.now c.loop-size.i c.in-Some.size size) in
    let few = chunks_few c.args.sequence.now (c.loop-size.i + 1) c.are_sized.ensures.chunks.sized (omega arith) in
    let all = offset_within c.args.sequence.now (c.loop-size.i + 1) in
    omega (arith, more, few, all, c.pass_chunk.ensures.ticks, c.chunk.ensures.tick, c.loop-size.invariant.ticks)

pub overflow_add-i : goal.overflow_add-i
overflow_add-i c =
    let there = chunk_within c.args.sequence.now c.loop-size.i c.in-Some.size (sym c.chunk.ensures.size ∙ c.in-Some.is) in
    omega (arith, there, c.are_sized.ensures.many)

pub loop-size-smaller : goal.loop-size-smaller
loop-size-smaller c =
    let there = chunk_within c.args.sequence.now c.loop-size.i c.in-Some.size (sym c.chunk.ensures.size ∙ c.in-Some.is) in
    omega (arith, there)

pub loop-size-preserved : goal.loop-size-preserved
loop-size-preserved c =
    let size = sym c.chunk.ensures.size ∙ c.in-Some.is in
    let there = chunk_within c.args.sequence.now c.loop-size.i c.in-Some.size size in
    let more = rw (← add-one) at (offset_more c.args.sequence.now c.loop-size.i c.in-Some.size size) in
    record {
      within = omega (arith, there);
      swept = c.in_ok-pass_chunk.ensures.swept;
      ticks = omega (arith, more, c.pass_chunk.ensures.ticks, c.chunk.ensures.tick, c.loop-size.invariant.ticks);
      rising = omega (arith, c.pass_chunk.ensures.rising, c.chunk.ensures.tick, c.loop-size.invariant.rising);
    }

pub returns-clause-spans : goal.returns-clause-spans
returns-clause-spans c =
    let cells = cells_of c.args.sequence.now in
    let ms = in_order c.args.anchors.now in
    let whole : take (offset c.args.sequence.now c.loop-size.i) (cells_of c.args.sequence.now) ≡ cells_of c.args.sequence.now =
    let end = ap cells_of (offset_all c.args.sequence.now c.loop-size.i (sym c.chunk.ensures.size ∙ c.in_default.is)) in
    take_all (offset c.args.sequence.now c.loop-size.i) (cells_of c.args.sequence.now) (let long = ap length end in omega arith) in
    IfOk-weaker c.spans.result _ _ (λ found is_it. λ ops doc holds marks.
    is_it ∙ (c.loop-size.invariant.swept.runs ∙ (ap (cell_runs (λ k. marks_in (covering cells ms k)) 0) whole
    ∙ spans_same ops doc cells ms holds.content marks.all))) c.spans.ensures.spans

pub returns-clause-few : goal.returns-clause-few
returns-clause-few c =
    IfOk-weaker c.spans.result _ _ (λ found is_it.
    let same = ap listed is_it in let few = c.loop-size.invariant.swept.few in
    (omega (arith, same, few))) c.spans.ensures.spans

pub returns-clause-ticks : goal.returns-clause-ticks
returns-clause-ticks c =
    let few = chunks_few c.args.sequence.now c.loop-size.i c.are_sized.ensures.chunks.sized c.loop-size.invariant.within in
    let all = offset_within c.args.sequence.now c.loop-size.i in
    omega (arith, few, all, c.chunk.ensures.tick, c.loop-size.invariant.ticks)

pub returns-in_err-pass_chunk-clause-listing : goal.returns-in_err-pass_chunk-clause-listing
returns-in_err-pass_chunk-clause-listing c = λ is ops doc holds marks.
    let same = ap listed (spans_same ops doc (cells_of c.args.sequence.now) (in_order c.args.anchors.now) holds.content marks.all) in
    let p = err_from_is_err_and c.from_residual-in_err-pass_chunk.result c.from_residual-in_err-pass_chunk.ensures.1 in
    let it : c.in_err-pass_chunk.field-0.0 ≡ Listing = cc (p.1, p.2, is) in
    let over = c.in_err-pass_chunk.ensures.listing (ap Err it) in
    omega (arith, over, same)

pub returns-clause-listing : goal.returns-clause-listing
returns-clause-listing c = λ is. absurd (c.spans.ensures.memory is)
