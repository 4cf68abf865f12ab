use Rattle.std.proofs.Common.{refl, sym, ◌∙◌, arith}
use Rattle.group_commit.specs.Saved.{with_stream, base_of}
use Rattle.group_commit.proofs.BeginLemmas.{room_says}
use Rattle.group_commit.proofs.store.Store.answer_due.Goals as goal

pub overflow_add-result : goal.overflow_add-result
overflow_add-result g c =
    let base = with_stream c.self.inside.current (base_of c.args.whole c.args.self.now.current).stream in
    let roomy = room_says base c.args.count c.args.bytes (sym (c.has_room.ensures base refl (sym c.bytes_before.ensures)) ∙ c.if-not-has_room.false) in
    record { fits = omega (arith, roomy.room, c.count.ensures.value) }
