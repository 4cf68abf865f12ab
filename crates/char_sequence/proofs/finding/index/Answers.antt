use Rattle.std.proofs.Common.{◌≡◌, ◌+◌, length, take, sym, ◌∙◌, ap, arith}
use Rattle.char_sequence.specs.Chunks.{cells_of}
use Rattle.char_sequence.proofs.PlaceLemmas.{few_in_chunk}
use Rattle.char_sequence.proofs.SizeLemmas.{long_before, long_to, few_to, within_place}
use Rattle.char_sequence.proofs.finding.index.Goals as goal

pub overflow_add-count : goal.overflow_add-count
overflow_add-count c =
    let so_far = c.loop-i.invariant in
    let few = few_to c.args.chunks.now c.loop-i.i c.are_sized.ensures.chunks.sized in
    let here = within_place c.args.chunks.now c.args.place.now.chunk c.args.place.now.at c.requires in
    let at = c.loop-i-test.true in
    let more = c.cells_in-count.ensures in
    let one = few_in_chunk c.args.chunks.now c.loop-i.i c.are_sized.ensures.chunks.sized in
    let own = few_in_chunk c.args.chunks.now c.args.place.now.chunk c.are_sized.ensures.chunks.sized in
    let many = c.are_sized.ensures.many in
    omega arith

pub loop-i-preserved : goal.loop-i-preserved
loop-i-preserved c =
    let so_far = c.loop-i.invariant in
    let more = c.cells_in-count.ensures in
    let next = long_to c.args.chunks.now c.loop-i.i in
    omega arith

pub returns : goal.returns
returns c =
    let at : c.loop-i.i ≡ c.args.place.now.chunk = (let out = c.loop-i-test.false in let end = c.loop-i.auto.i-end in omega arith) in
    c.loop-i.invariant ∙ (ap (λ i. c.args.place.now.at + length (cells_of (take i c.args.chunks.now))) at
    ∙ sym (long_before c.args.chunks.now c.args.place.now.chunk c.args.place.now.at c.requires))
