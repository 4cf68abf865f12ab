use Rattle.std.proofs.Common.{◌/◌, arith}
use Rattle.char_sequence.proofs.GroupSearchLemmas.{hides_group}
use Rattle.char_sequence.proofs.PlaceLemmas.{chunk_of_place}
use Rattle.char_sequence.proofs.hidden.next_group.Goals as goal

pub overflow_add-next : goal.overflow_add-next
overflow_add-next c =
    let within = chunk_of_place c.args.chunks.now c.args.at.now.chunk c.args.at.now.at c.requires in
    let many = c.are_sized.ensures.many in
    omega arith

pub returns-clause-hidden : goal.returns-clause-hidden
returns-clause-hidden c =
    let begins = c.if-at-gt0.false in
    let whole = c.if-at-gt0-2.false in
    let none = c.if-group-gt0.false in
    let own = c.group.ensures.seen in
    let more = c.if-next-len.false in
    let long = c.len.ensures in
    hides_group c.args.chunks.now c.args.at.now (c.args.at.now.chunk / 64) (omega arith) (omega arith) (omega arith) (omega arith)
