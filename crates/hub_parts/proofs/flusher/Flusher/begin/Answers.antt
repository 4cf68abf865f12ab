use Rattle.std.proofs.Common.{◌-◌, ◌≡◌, length, true, false}
use Rattle.std.proofs.lemmas.Result.{err_from_is_err_and}
use Rattle.hub_parts.proofs.BeginLemmas.{handed_count, handed_over, IsTested, tested, met_limit, met_memory, met_begun, meet_begun}
use Rattle.hub_parts.specs.Meeting.{pending}
use Rattle.hub_parts.proofs.flusher.Flusher.begin.Goals as goal

pub returns-then-not-has_room-clause-answer : goal.returns-then-not-has_room-clause-answer
returns-then-not-has_room-clause-answer g c =
    let counted : c.len.result - c.begun-begun.result ≡ length (pending c.args.locked.now) =
    handed_count c.args.locked.now c.list-list.result c.begun-begun.result c.len.result c.list-list.ensures.list c.begun-begun.ensures c.len.ensures in
    let test : IsTested c.args.locked.now c.args.self.now false =
    tested c.args.locked.now c.args.self.now c.self.inside.store c.self.inside.list c.self.inside.due (c.len.result - c.begun-begun.result) c.waiting_singles.result c.has_room.result false c.self.view_is counted c.waiting_singles.ensures c.if-count-eq0.false c.has_room.ensures c.if-not-has_room.true in
    met_limit c.args.locked.now c.args.self.now test

pub returns-in_err-length-clause-answer : goal.returns-in_err-length-clause-answer
returns-in_err-length-clause-answer g c =
    let counted : c.len.result - c.begun-begun.result ≡ length (pending c.args.locked.now) =
    handed_count c.args.locked.now c.list-list.result c.begun-begun.result c.len.result c.list-list.ensures.list c.begun-begun.ensures c.len.ensures in
    let test : IsTested c.args.locked.now c.args.self.now true =
    tested c.args.locked.now c.args.self.now c.self.inside.store c.self.inside.list c.self.inside.due (c.len.result - c.begun-begun.result) c.waiting_singles.result c.has_room.result true c.self.view_is counted c.waiting_singles.ensures c.if-count-eq0.false c.has_room.ensures c.if-not-has_room.false in
    let p = err_from_is_err_and c.from_residual.result c.from_residual.ensures.1 in
    rw (p.1, p.2) (met_memory c.args.locked.now c.args.self.now _ test c.in_err-length.ensures.refused)

pub returns-clause-answer : goal.returns-clause-answer
returns-clause-answer g c =
    let counted : c.len.result - c.begun-begun.result ≡ length (pending c.args.locked.now) =
    handed_count c.args.locked.now c.list-list.result c.begun-begun.result c.len.result c.list-list.ensures.list c.begun-begun.ensures c.len.ensures in
    let test : IsTested c.args.locked.now c.args.self.now true =
    tested c.args.locked.now c.args.self.now c.self.inside.store c.self.inside.list c.self.inside.due (c.len.result - c.begun-begun.result) c.waiting_singles.result c.has_room.result true c.self.view_is counted c.waiting_singles.ensures c.if-count-eq0.false c.has_room.ensures c.if-not-has_room.false in
    let over = handed_over c.args.locked.now c.list-list.result c.begun-begun.result c.list-list.ensures.list c.begun-begun.ensures in
    met_begun c.args.locked.now c.args.self.now c.in_ok-length.length test (rw over at c.in_ok-length.ensures.length)

pub returns-clause-fits : goal.returns-clause-fits
returns-clause-fits g c =
    let counted : c.len.result - c.begun-begun.result ≡ length (pending c.args.locked.now) =
    handed_count c.args.locked.now c.list-list.result c.begun-begun.result c.len.result c.list-list.ensures.list c.begun-begun.ensures c.len.ensures in
    let test : IsTested c.args.locked.now c.args.self.now true =
    tested c.args.locked.now c.args.self.now c.self.inside.store c.self.inside.list c.self.inside.due (c.len.result - c.begun-begun.result) c.waiting_singles.result c.has_room.result true c.self.view_is counted c.waiting_singles.ensures c.if-count-eq0.false c.has_room.ensures c.if-not-has_room.false in
    let over = handed_over c.args.locked.now c.list-list.result c.begun-begun.result c.list-list.ensures.list c.begun-begun.ensures in
    let taken = rw over at c.in_ok-length.ensures.taken in
    rw c.take_all.ensures
    (meet_begun g.D.DiskFacts c.args.locked.now c.args.self.now.store c.begin_commit.new.self.store c.args.self.now.list c.begin_commit.new.self.list c.deref.result.now c.args.self.now.due c.begin_commit.new.self.due
    (record { sound = c.kept.ensures.sound; keeps = c.kept.ensures.keeps }) c.requires.settled c.requires.rests test.some
    taken.begins taken.list taken.due)
