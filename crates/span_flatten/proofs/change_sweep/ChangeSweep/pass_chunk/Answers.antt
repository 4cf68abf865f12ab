use Rattle.std.proofs.Common.{◌≡◌, ◌+◌, add-one, arith, sym, ◌∙◌}
use Rattle.char_sequence.specs.Chunks.{cells_of}
use Rattle.span_flatten.specs.Reading.{offset}
use Rattle.span_flatten.proofs.HeldLemmas.{cell_there, offset_more}
use Rattle.span_flatten.proofs.change_sweep.ChangeSweep.pass_chunk.Goals as goal

pub loop-j-preserved : goal.loop-j-preserved
loop-j-preserved c =
    let there = cell_there c.args.sequence.now c.args.chunk.index c.loop-j.j c.in-Some.cell (sym c.cell.ensures.cell ∙ c.in-Some.is) in
    let next : offset c.args.sequence.now c.args.chunk.index + c.loop-j.j + 1 ≡ offset c.args.sequence.now c.args.chunk.index + (c.loop-j.j + 1) = omega arith in
    rw next at (c.in_ok-pass-in-Some.ensures (cells_of c.args.sequence.now) (offset c.args.sequence.now c.args.chunk.index + c.loop-j.j) there
    c.loop-j.invariant)

pub returns : goal.returns
returns c =
    let more = offset_more c.args.sequence.now c.args.chunk.index c.args.chunk.size c.requires.there in
    let end : offset c.args.sequence.now c.args.chunk.index + c.loop-j.j ≡ offset c.args.sequence.now (c.args.chunk.index + 1) = rw add-one (omega (arith, more)) in
    record { passed = rw end at c.loop-j.invariant }
