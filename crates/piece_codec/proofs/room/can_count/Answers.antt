use Rattle.std.proofs.Common.{◌≡◌, sym, true, arith}
use Rattle.std.proofs.lemmas.Bool.Decides.{nat_tests}
use Rattle.op_ids.specs.Clock.{advanced_by, is_clock}
use Rattle.op_ids.proofs.RoomLemmas.{is_clock-room, new_replica, no_room-counts}
use Rattle.change_codec.specs.Lent.{deps_of}
use Rattle.piece_codec.proofs.room.can_count.Goals as goal

pub returns-then-own-more : goal.returns-then-own-more
returns-then-own-more c =
    let own = c.counts-len.ensures.own in
    let above = c.if-own-more.true in
    sym (no_room-counts (deps_of c.args.deps.now) c.args.replica c.args.more c.counts-len.ensures.valid c.replica_is_not_nil.ensures (grind (arith, nat_tests))).0

pub returns-then-own-gt0 : goal.returns-then-own-gt0
returns-then-own-gt0 c =
    let own = c.counts-len.ensures.own in
    let within = c.if-own-more.false in
    let some = c.if-own-gt0.true in
    let few = c.requires.few in
    let room : is_clock (advanced_by (deps_of c.args.deps.now) c.args.replica c.args.more) ≡ true =
    is_clock-room (deps_of c.args.deps.now) c.args.replica c.args.more c.counts-len.ensures.valid c.replica_is_not_nil.ensures
    (record { replicas = λ none. absurd (grind (arith, nat_tests)); counts = grind (arith, nat_tests) }) in
    grind (arith, nat_tests)

pub returns-else-own-gt0 : goal.returns-else-own-gt0
returns-else-own-gt0 c =
    let own = c.counts-len.ensures.own in
    let within = c.if-own-more.false in
    let none = c.if-own-gt0.false in
    let few = c.requires.few in
    let some = c.requires.some in
    (new_replica (deps_of c.args.deps.now) c.args.replica c.args.more c.counts-len.result.0 c.counts-len.ensures.valid c.replica_is_not_nil.ensures
    some (grind (arith, nat_tests)) (grind (arith, nat_tests)) c.counts-len.ensures.len).0
