use Rattle.std.proofs.Common.{rules, ◌≡◌, ◌+◌, ◌<◌, true, ap, ◌∙◌, sym, arith, ◌≤◌}
use Rattle.std.proofs.lemmas.Bool.Decides.{nat_tests}
use Rattle.op_ids.specs.Clock.{advanced_by, is_clock, with_count, count_of}
use Rattle.op_ids.proofs.RoomLemmas.{advanced_by-set, room_from}
use Rattle.op_ids.proofs.clock.Clock.advance_by.Goals as goal
use Rattle.op_ids.proofs.clock.Clock.advance_by.Goals.{After-put-arg-1}

-- there is room for so many operations of the replica
room : (c : After-put-arg-1) → (is_clock (advanced_by c.args.self.now c.args.replica c.args.count) ≡ true)
    × (count_of c.args.self.now c.args.replica + c.args.count ≤ 16777216)
    × (advanced_by c.args.self.now c.args.replica c.args.count ≡ with_count c.args.self.now c.args.replica (count_of c.args.self.now c.args.replica + c.args.count))
room c =
    let positive : 0 < c.args.replica = search rules in
    let not_none = c.if-count-eq0.false in
    let some : 0 < c.args.count = grind (arith, nat_tests) in
    let fits = c.can_advance_by.ensures.fits in
    let passed = c.if-not-can_advance_by.false in
    let room : is_clock (advanced_by c.args.self.now c.args.replica c.args.count) ≡ true = cc in
    let rising = c.get-counted.ensures.rising in
    (room, (room_from c.args.self.now c.args.replica c.args.count rising positive some room).counts, advanced_by-set c.args.self.now c.args.replica c.args.count rising positive some room)

pub overflow_add-counted : goal.overflow_add-counted
overflow_add-counted c =
    let few = (room (goal.at.overflow_add-counted c).After-put-arg-1).1 in
    let value = c.get-counted.ensures.value in
    omega arith

pub put-requires : goal.put-requires
put-requires c =
    let there = room (goal.at.put-requires c).After-put-arg-1 in
    let value = c.get-counted.ensures.value in
    rw (value, ← there.2) there.0

pub returns-clause-ok : goal.returns-clause-ok
returns-clause-ok c =
    c.in_ok-put.ensures.ok ∙ ap (λ n. with_count c.args.self.now c.args.replica (n + c.args.count)) c.get-counted.ensures.value
    ∙ sym (room (goal.at.returns-clause-ok c).After-put-arg-1).2
