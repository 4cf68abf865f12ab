use Rattle.std.proofs.Common.{◌<◌, ◌+◌, length, arith}
use Rattle.char_sequence.proofs.LastingLemmas.{few_front, front_next}
use Rattle.char_sequence.proofs.lasting.seen_in_front.Goals as goal

pub overflow_add-count : goal.overflow_add-count
overflow_add-count c =
    let inside : c.loop-j.j < length c.args.chunks.now = (let more = c.loop-j-test.true in let to = c.requires in omega arith) in
    let so_far = c.loop-j.invariant.seen in
    let own = c.seen_in_chunk-count.ensures.seen in
    let next = front_next c.args.chunks.now c.loop-j.j inside in
    let few = few_front c.args.chunks.now (c.loop-j.j + 1) c.are_sized.ensures.chunks.sized in
    let many = c.are_sized.ensures.many in
    omega arith

pub loop-j-preserved : goal.loop-j-preserved
loop-j-preserved c = record {
  seen =
      let inside : c.loop-j.j < length c.args.chunks.now = (let more = c.loop-j-test.true in let to = c.requires in omega arith) in
      let so_far = c.loop-j.invariant.seen in
      let own = c.seen_in_chunk-count.ensures.seen in
      let next = front_next c.args.chunks.now c.loop-j.j inside in
      omega arith;
  ticks = let so_far = c.loop-j.invariant.ticks in let tick = c.seen_in_chunk-count.ensures.tick in omega arith;
}
