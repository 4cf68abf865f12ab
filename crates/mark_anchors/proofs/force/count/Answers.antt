use Rattle.std.proofs.Common.{length, sym, ◌∙◌, ap, arith}
use Rattle.std.proofs.lemmas.List.{take_all}
use Rattle.char_sequence.specs.Chunks.{cells_of}
use Rattle.char_sequence.proofs.PlaceLemmas.{few_in_chunk}
use Rattle.char_sequence.proofs.SizeLemmas.{few_to, long_to, next_chunk, none_read, size_read}
use Rattle.mark_anchors.proofs.force.count.Goals as goal

pub overflow_add-count : goal.overflow_add-count
overflow_add-count c =
    let read = size_read c.args.sequence.now c.loop-size.i c.in-Some.size (sym c.chunk.ensures.size ∙ c.in-Some.is) in
    let there = read.0 in
    let long = read.1 in
    let few = few_to c.args.sequence.now c.loop-size.i c.are_sized.ensures.chunks.sized in
    let one = few_in_chunk c.args.sequence.now c.loop-size.i c.are_sized.ensures.chunks.sized in
    let so_far = c.loop-size.invariant.count in
    let many = c.are_sized.ensures.many in
    omega arith

pub overflow_add-i : goal.overflow_add-i
overflow_add-i c =
    let next = next_chunk c.args.sequence.now c.loop-size.i c.in-Some.size c.are_sized.ensures.many (sym c.chunk.ensures.size ∙ c.in-Some.is) in
    let fits = next.1 in
    omega arith

pub loop-size-smaller : goal.loop-size-smaller
loop-size-smaller c =
    let next = next_chunk c.args.sequence.now c.loop-size.i c.in-Some.size c.are_sized.ensures.many (sym c.chunk.ensures.size ∙ c.in-Some.is) in
    let more = next.0 in
    omega arith

pub loop-size-preserved : goal.loop-size-preserved
loop-size-preserved c =
    let read = size_read c.args.sequence.now c.loop-size.i c.in-Some.size (sym c.chunk.ensures.size ∙ c.in-Some.is) in
    record {
      within = let there = read.0 in omega arith;
      count = let long = read.1 in let next = long_to c.args.sequence.now c.loop-size.i in let so_far = c.loop-size.invariant.count in omega arith;
    }

pub returns : goal.returns
returns c =
    let end = none_read c.args.sequence.now c.loop-size.i (sym c.chunk.ensures.size ∙ c.in_default.is) in
    c.loop-size.invariant.count ∙ ap (λ held. length (cells_of held)) (take_all c.loop-size.i c.args.sequence.now end)
