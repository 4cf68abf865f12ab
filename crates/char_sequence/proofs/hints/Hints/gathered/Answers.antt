use Rattle.std.proofs.Common.{sym, ◌∙◌, arith}
use Rattle.char_sequence.proofs.SizeLemmas.{next_chunk}
use Rattle.char_sequence.proofs.hints.Hints.gathered.Goals as goal

pub overflow_add-i : goal.overflow_add-i
overflow_add-i c =
    let next = next_chunk c.args.chunks.now c.loop-size.i c.in-Some.size c.are_sized.ensures.many (sym c.chunk.ensures.size ∙ c.in-Some.is) in
    let fits = next.1 in
    omega arith

pub loop-size-preserved : goal.loop-size-preserved
loop-size-preserved c =
    (next_chunk c.args.chunks.now c.loop-size.i c.in-Some.size c.are_sized.ensures.many (sym c.chunk.ensures.size ∙ c.in-Some.is)).0

pub loop-size-smaller : goal.loop-size-smaller
loop-size-smaller c =
    let here = next_chunk c.args.chunks.now c.loop-size.i c.in-Some.size c.are_sized.ensures.many (sym c.chunk.ensures.size ∙ c.in-Some.is) in
    let more = here.0 in
    omega arith
