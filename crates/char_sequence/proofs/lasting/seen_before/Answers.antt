use Rattle.std.proofs.Common.{arith}
use Rattle.char_sequence.proofs.LastingLemmas.{few_front, few_groups, few_own, seen_at_place}
use Rattle.char_sequence.proofs.lasting.seen_before.Goals as goal

pub overflow_add-result : goal.overflow_add-result
overflow_add-result c =
    let front = c.seen_in_front-front.ensures.seen in
    let own = c.seen_in_own-own.ensures.seen in
    let few = few_front c.args.chunks.now c.args.place.now.chunk c.are_sized.ensures.chunks.sized in
    let small = few_own c.args.chunks.now c.args.place.now.chunk c.args.place.now.at c.are_sized.ensures.chunks.sized c.requires in
    let many = c.are_sized.ensures.many in
    omega arith

pub returns-clause-seen : goal.returns-clause-seen
returns-clause-seen c =
    let front = c.seen_in_front-front.ensures.seen in
    let own = c.seen_in_own-own.ensures.seen in
    let both = seen_at_place c.args.chunks.now c.args.place.now.chunk c.args.place.now.at in
    omega arith

pub returns-clause-ticks : goal.returns-clause-ticks
returns-clause-ticks c =
    let front = c.seen_in_front-front.ensures.ticks in
    let own = c.seen_in_own-own.ensures.ticks in
    let small = few_own c.args.chunks.now c.args.place.now.chunk c.args.place.now.at c.are_sized.ensures.chunks.sized c.requires in
    let groups = few_groups c.args.chunks.now c.args.place.now.chunk c.args.place.now.at c.are_sized.ensures.chunks c.requires in
    omega arith
