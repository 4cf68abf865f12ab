use Rattle.std.proofs.Common.{◌≡◌, true, sym, ◌∙◌}
use Rattle.op_pieces.specs.Pieces.{has_room_behind}
use Rattle.run_list.proofs.NextRecord.{next_fits, spelled_next}
use Rattle.run_list.proofs.next_record.next_spelled.Goals as goal

pub typed_at-requires-clause-fits : goal.typed_at-requires-clause-fits
typed_at-requires-clause-fits c =
    let room : has_room_behind c.args.last 1 ≡ true = sym c.has_room.ensures ∙ c.if-not-has_room.false in
    next_fits c.args.last c.in-Some.value c.every_op_has_a_spelling.ensures (rw c.in-Some.is at c.last_character.ensures) room

pub returns-then-begins_with : goal.returns-then-begins_with
returns-then-begins_with c =
    let room : has_room_behind c.args.last 1 ≡ true = sym c.has_room.ensures ∙ c.if-not-has_room.false in
    let fits = next_fits c.args.last c.in-Some.value c.every_op_has_a_spelling.ensures (rw c.in-Some.is at c.last_character.ensures) room in
    let front = rw c.clear.ensures.items at c.in_ok-put_op.ensures.ok in
    spelled_next c.args.last c.in_ok-next.next c.in-Some.value c.args.format c.args.bytes.now _ c.in_ok-next.ensures fits room
    (c.has_format.ensures (c.if-not-has_format.false)) front ((rw c.deref.ensures.value at c.begins_with.ensures.within) c.if-begins_with.true)
    ((rw c.deref.ensures.value at c.begins_with.ensures.same) c.if-begins_with.true)
