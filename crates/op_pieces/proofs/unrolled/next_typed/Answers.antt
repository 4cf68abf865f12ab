use Rattle.std.proofs.Common.{◌≡◌, ◌<◌, true, rules, arith, ap, length, suc, Err}
use Rattle.std.proofs.lemmas.Bool.{both_ways}
use Rattle.op_ids.specs.Clock.{advanced, is_clock}
use Rattle.op_ids.specs.declared.clock_error.ClockError.TheVariants.{Limit}
use Rattle.op_pieces.proofs.UnrolledLemmas.{room_parts, first_counted}
use Rattle.op_pieces.proofs.unrolled.next_typed.Goals as goal

pub unreachable-requires : goal.unreachable-requires
unreachable-requires c =
    let op = c.args.op.now in
    let same : c.in-Err-Limit.field-0 ≡ Limit = c.in-Err-Limit.field-0-is in
    let full = c.advance.ensures.limit.0 (rw c.in-Err-Limit.is (ap Err same)) in
    let valid : is_clock c.in_ok-deps.deps ≡ true = search rules in
    let positive : 0 < c.replica-replica.result = search rules in
    both_ways (is_clock (advanced c.in_ok-deps.deps c.replica-replica.result)) full
    (first_counted op c.in_ok-deps.deps c.replica-replica.result (suc (length c.requires.0)) c.in_ok-deps.ensures c.replica-replica.ensures valid positive (omega arith)
    (room_parts op (suc (length c.requires.0)) c.requires.1).deps)

pub new-requires-clause-in_range : goal.new-requires-clause-in_range
new-requires-clause-in_range c =
    let room = room_parts c.args.op.now (suc (length c.requires.0)) c.requires.1 in
    omega (arith, room.counter, c.counter.ensures.value)
