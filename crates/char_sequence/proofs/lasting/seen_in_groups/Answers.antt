use Rattle.std.proofs.Common.{◌+◌, ◌*◌, arith}
use Rattle.char_sequence.proofs.LastingLemmas.{few_front, front_group}
use Rattle.char_sequence.proofs.lasting.seen_in_groups.Goals as goal

pub overflow_add-count : goal.overflow_add-count
overflow_add-count c =
    let so_far = c.loop-g.invariant.seen in
    let own = c.group-count.ensures.seen in
    let next = front_group c.args.chunks.now c.loop-g.g in
    let few = few_front c.args.chunks.now (64 * (c.loop-g.g + 1)) c.are_sized.ensures.chunks.sized in
    let many = c.are_sized.ensures.many in
    omega arith

pub loop-g-preserved : goal.loop-g-preserved
loop-g-preserved c = record {
  seen =
      let so_far = c.loop-g.invariant.seen in
      let own = c.group-count.ensures.seen in
      let next = front_group c.args.chunks.now c.loop-g.g in
      omega arith;
  ticks = let so_far = c.loop-g.invariant.ticks in let tick = c.group-count.ensures.tick in omega arith;
}
