use Rattle.std.proofs.Common.{◌≡◌, ◌+◌, add-one, arith, sym, ◌∙◌, ap}
use Rattle.std.specs.Prelude.{Err}
use Rattle.std.proofs.lemmas.Result.{err_from_is_err_and}
use Rattle.span_flatten.specs.declared.error.SpansError.TheVariants.{Listing}
use Rattle.char_sequence.specs.Chunks.{cells_of}
use Rattle.span_flatten.specs.Reading.{offset}
use Rattle.span_flatten.proofs.HeldLemmas.{cell_there, offset_more}
use Rattle.span_flatten.proofs.sweep.Sweep.pass_chunk.Goals as goal

pub loop-j-preserved : goal.loop-j-preserved
loop-j-preserved c =
    let there = cell_there c.args.sequence.now c.args.chunk.index c.loop-j.j c.in-Some.cell (sym c.cell.ensures.cell ∙ c.in-Some.is) in
    let next : offset c.args.sequence.now c.args.chunk.index + c.loop-j.j + 1 ≡ offset c.args.sequence.now c.args.chunk.index + (c.loop-j.j + 1) = omega arith in
    record {
      swept = rw next at (c.in_ok-pass-in-Some.ensures.passed (cells_of c.args.sequence.now) (offset c.args.sequence.now c.args.chunk.index + c.loop-j.j) there
          c.loop-j.invariant.swept);
      ticks = omega arith;
      rising = omega arith;
    }

pub returns-clause-swept : goal.returns-clause-swept
returns-clause-swept c =
    let more = offset_more c.args.sequence.now c.args.chunk.index c.args.chunk.size c.requires.there in
    let end : offset c.args.sequence.now c.args.chunk.index + c.loop-j.j ≡ offset c.args.sequence.now (c.args.chunk.index + 1) = rw add-one (omega (arith, more)) in
    rw end at c.loop-j.invariant.swept

pub returns-in_err-pass-in-Some-clause-listing : goal.returns-in_err-pass-in-Some-clause-listing
returns-in_err-pass-in-Some-clause-listing c = λ is.
    let there = cell_there c.args.sequence.now c.args.chunk.index c.loop-j.j c.in-Some.cell (sym c.cell.ensures.cell ∙ c.in-Some.is) in
    let p = err_from_is_err_and c.from_residual.result c.from_residual.ensures.1 in
    let it : c.in_err-pass-in-Some.field-0.0 ≡ Listing = cc (p.1, p.2, is) in
    c.in_err-pass-in-Some.ensures.listing (ap Err it) (cells_of c.args.sequence.now) (offset c.args.sequence.now c.args.chunk.index + c.loop-j.j) there
    c.loop-j.invariant.swept
