use Rattle.std.proofs.Common.{rules, ◌<◌, sym, arith, ◌≡◌, false, nat_lt}
use Rattle.std.proofs.lemmas.Bool.Decides.{nat_tests}
use Rattle.op_ids.proofs.ClockLemmas.{count_limit}
use Rattle.op_ids.proofs.RoomLemmas.{is_clock-room, new_replica, no_more, no_room-counts}
use Rattle.op_ids.proofs.clock.Clock.can_advance_by.Goals as goal
use Rattle.op_ids.specs.Clock.{is_clock, advanced_by, IsOverfull}
use Rattle.op_ids.proofs.clock.Clock.can_advance_by.Goals.{Then-count-counted, After-len}

pub overflow_sub-counted : goal.overflow_sub-counted
overflow_sub-counted c =
    let limit = count_limit c.args.self.now c.args.replica c.get-counted.ensures.rising in
    let value = c.get-counted.ensures.value in
    omega arith

pub returns-then-count-eq0-clause-fits : goal.returns-then-count-eq0-clause-fits
returns-then-count-eq0-clause-fits c =
    sym (no_more c.args.self.now c.args.replica c.args.count c.get-counted.ensures.rising (let none = c.if-count-eq0.true in grind (arith, nat_tests)))

-- one replica would have too many operations
too_many : (c : Then-count-counted) → (is_clock (advanced_by c.args.self.now c.args.replica c.args.count) ≡ false) × IsOverfull (advanced_by c.args.self.now c.args.replica c.args.count)
too_many c =
    let positive : 0 < c.args.replica = search rules in
    let value = c.get-counted.ensures.value in
    let above = c.if-count-counted.true in
    no_room-counts c.args.self.now c.args.replica c.args.count c.get-counted.ensures.rising positive (grind (arith, nat_tests))

pub returns-then-count-counted-clause-fits : goal.returns-then-count-counted-clause-fits
returns-then-count-counted-clause-fits c = sym (too_many (goal.at.returns-then-count-counted-clause-fits c).Then-count-counted).0

pub returns-then-count-counted-clause-full : goal.returns-then-count-counted-clause-full
returns-then-count-counted-clause-full c = λ _. (too_many (goal.at.returns-then-count-counted-clause-full c).Then-count-counted).1

pub returns-then-counted-gt0-clause-fits : goal.returns-then-counted-gt0-clause-fits
returns-then-counted-gt0-clause-fits c =
    let positive : 0 < c.args.replica = search rules in
    let value = c.get-counted.ensures.value in
    let within = c.if-count-counted.false in
    let some = c.if-counted-gt0.true in
    sym (is_clock-room c.args.self.now c.args.replica c.args.count c.get-counted.ensures.rising positive
    (record { replicas = λ none. absurd (grind (arith, nat_tests)); counts = grind (arith, nat_tests) }))

-- a replica of which there is no operation
new : (c : After-len) → (nat_lt c.len.result 16 ≡ is_clock (advanced_by c.args.self.now c.args.replica c.args.count))
    × (nat_lt c.len.result 16 ≡ false → IsOverfull (advanced_by c.args.self.now c.args.replica c.args.count))
new c =
    let positive : 0 < c.args.replica = search rules in
    let value = c.get-counted.ensures.value in
    let within = c.if-count-counted.false in
    let none = c.if-counted-gt0.false in
    let some = c.if-count-eq0.false in
    new_replica c.args.self.now c.args.replica c.args.count c.len.result c.get-counted.ensures.rising positive
    (grind (arith, nat_tests)) (grind (arith, nat_tests)) (grind (arith, nat_tests)) c.len.ensures.value

pub returns-clause-fits : goal.returns-clause-fits
returns-clause-fits c = (new (goal.at.returns-clause-fits c).After-len).0

pub returns-clause-full : goal.returns-clause-full
returns-clause-full c = (new (goal.at.returns-clause-full c).After-len).1
