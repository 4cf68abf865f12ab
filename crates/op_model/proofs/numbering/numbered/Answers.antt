use Rattle.std.proofs.Common.{rules, suc, ◌≡◌, ◌+◌, ◌<◌, true, drop, length, ap, Err}
use Rattle.std.proofs.lemmas.Bool.{both_ways}
use Rattle.std.proofs.lemmas.List.{drop_more}
use Rattle.op_ids.specs.Clock.{advanced, advanced_by, is_clock}
use Rattle.op_ids.specs.declared.clock_error.ClockError.TheVariants.{Limit}
use Rattle.op_ids.proofs.RoomLemmas.{first_of_more}
use Rattle.op_model.proofs.numbering.numbered.Goals as goal

pub unreachable-requires : goal.unreachable-requires
unreachable-requires c =
    let positive : 0 < c.args.author.now.replica = search rules in
    let room : is_clock (advanced_by c.loop-body.clock c.args.author.now.replica (suc (length (drop (c.loop-body.body-index + 1) c.args.bodies.now)))) ≡ true
    = rw (drop_more c.args.bodies.now c.loop-body.body-index c.body-item.result c.loop-body-test.true) at c.loop-body.invariant.room in
    let same : c.in-Err-Limit.field-0 ≡ Limit = cc in
    let full = c.advance.ensures.limit.0 (rw c.in-Err-Limit.is (ap Err same)) in
    let fits = first_of_more c.loop-body.clock c.args.author.now.replica (length (drop (c.loop-body.body-index + 1) c.args.bodies.now)) c.loop-body.invariant.valid positive room in
    both_ways (is_clock (advanced c.loop-body.clock c.args.author.now.replica)) full fits
