use Rattle.std.proofs.Common.{◌≡◌, ◌+◌, ◌∙◌, take, add-one, sym, ap, arith}
use Rattle.char_sequence.specs.Chunks.{cells_of}
use Rattle.span_flatten.specs.Reading.{offset}
use Rattle.span_flatten.proofs.CellLemmas.{read_more}
use Rattle.span_flatten.proofs.HeldLemmas.{cell_there, offset_more}
use Rattle.span_flatten.proofs.flatten.add_chunk.Goals as goal

pub loop-j-preserved : goal.loop-j-preserved
loop-j-preserved c =
    read_more (cells_of c.args.sequence.now) c.loop-j.found.items c.push.new.self.items (offset c.args.sequence.now c.args.i + c.loop-j.j)
    (offset c.args.sequence.now c.args.i + (c.loop-j.j + 1)) c.in-Some.cell
    (cell_there c.args.sequence.now c.args.i c.loop-j.j c.in-Some.cell (sym c.cell.ensures.cell ∙ c.in-Some.is)) c.loop-j.invariant
    c.in_ok-push-in-Some.ensures.items (omega arith)

pub returns : goal.returns
returns c =
    let more = offset_more c.args.sequence.now c.args.i c.args.size c.requires.there in
    let end : offset c.args.sequence.now c.args.i + c.loop-j.j ≡ offset c.args.sequence.now (c.args.i + 1) =
    rw add-one (omega (arith, more)) in
    c.loop-j.invariant ∙ ap (λ n. take n (cells_of c.args.sequence.now)) end
