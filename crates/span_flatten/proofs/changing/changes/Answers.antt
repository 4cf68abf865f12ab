use Rattle.std.proofs.Common.{◌≡◌, length, ap, sym, ◌∙◌, arith}
use Rattle.char_sequence.specs.Chunks.{cells_of}
use Rattle.span_flatten.specs.Listing.{listed_steps}
use Rattle.span_flatten.specs.Reading.{offset}
use Rattle.span_flatten.proofs.ChangeLemmas.{told_all}
use Rattle.span_flatten.proofs.HeldLemmas.{chunk_within, offset_all}
use Rattle.span_flatten.proofs.changing.changes.Goals as goal

pub loop-size-init : goal.loop-size-init
loop-size-init c = record {
  within = omega arith;
  passed = rw c.in_order.ensures at (c.in_ok-sweep.ensures (cells_of c.args.sequence.now));
}

pub overflow_add-i : goal.overflow_add-i
overflow_add-i c =
    let some = sym c.chunk.ensures.size ∙ c.in-Some.is in
    omega (arith, chunk_within c.args.sequence.now c.loop-size.i c.in-Some.size some, c.are_sized.ensures.many)

pub loop-size-smaller : goal.loop-size-smaller
loop-size-smaller c =
    let some = sym c.chunk.ensures.size ∙ c.in-Some.is in
    omega (arith, chunk_within c.args.sequence.now c.loop-size.i c.in-Some.size some)

pub loop-size-preserved : goal.loop-size-preserved
loop-size-preserved c =
    let there = chunk_within c.args.sequence.now c.loop-size.i c.in-Some.size (sym c.chunk.ensures.size ∙ c.in-Some.is) in
    record {
      within = omega (arith, there);
      passed = c.in_ok-step.ensures.told;
    }

pub returns-clause-told : goal.returns-clause-told
returns-clause-told c = λ before more doc holds marks noted.
    let end : offset c.args.sequence.now c.loop-size.i ≡ length (cells_of c.args.sequence.now) =
    ap (λ held. length (cells_of held)) (offset_all c.args.sequence.now c.loop-size.i (sym c.chunk.ensures.size ∙ c.in_default.is)) in
    c.into_steps.ensures ∙ (c.loop-size.invariant.passed.told before more doc holds marks.all noted
    ∙ told_all before more doc (cells_of c.args.sequence.now) (offset c.args.sequence.now c.loop-size.i) holds end)

pub returns-clause-few : goal.returns-clause-few
returns-clause-few c =
    let few = c.loop-size.invariant.passed.few in
    let same = ap listed_steps c.into_steps.ensures in
    omega (arith, few, same)
