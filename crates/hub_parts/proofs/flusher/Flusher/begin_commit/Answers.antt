use Rattle.std.proofs.Common.{◌-◌, drop, refl, sym, ap, ◌∙◌, arith, Ok}
use Rattle.hub_parts.proofs.Fronts.{due_at_rest, flusher_begun, put_written}
use Rattle.hub_parts.proofs.BeginLemmas.{refused_so, room_within}
use Rattle.hub_parts.proofs.flusher.Flusher.begin_commit.Goals as goal

pub invariant_of-self-in-Ok-Some : goal.invariant_of-self-in-Ok-Some
invariant_of-self-in-Ok-Some g c =
    let ops = drop c.args.n c.args.list.now in
    let written = put_written c.args.list.now c.args.n c.len.result c.args.pieces.now c.len.ensures c.requires.can.written in
    rw c.in_ok-extend_from.ensures.ok
    (flusher_begun g.D.DiskFacts c.self.inside.store c.begin_records.new.self c.self.inside.list ops c.args.pieces.now c.self.inside.due c.self.invariant (ap (λ f. f.due) c.self.view_is ∙ c.requires.can.rests)
    (c.begin_records.ensures.began ops written c.in-Ok-Some.length (c.in-Ok-Some.is ∙ ap Ok c.in-Ok-Some.field-0-is)))

pub returns-in-Ok-Some-clause-taken : goal.returns-in-Ok-Some-clause-taken
returns-in-Ok-Some-clause-taken g c =
    let ops = drop c.args.n c.args.list.now in
    let written = put_written c.args.list.now c.args.n c.len.result c.args.pieces.now c.len.ensures c.requires.can.written in
    rw (sym c.self.view_is) (record {
      begins = c.begin_records.ensures.began ops written c.in-Ok-Some.length (c.in-Ok-Some.is ∙ ap Ok c.in-Ok-Some.field-0-is);
      list = c.in_ok-extend_from.ensures.ok;
      due = refl;
    })

pub returns-in-Err-clause-refused : goal.returns-in-Err-clause-refused
returns-in-Err-clause-refused g c =
    let ops = drop c.args.n c.args.list.now in
    let can = c.requires.can in
    let written = put_written c.args.list.now c.args.n c.len.result c.args.pieces.now c.len.ensures can.written in
    refused_so _ _ _
    (due_at_rest g.D.DiskFacts c.args.self.now c.self.inside.store c.self.inside.list c.self.inside.due (c.len.result - c.args.n) c.args.pieces.now c.self.view_is c.self.invariant can.works can.rests (omega (arith, written.counted, can.some))
    (room_within c.args.self.now.store.current ops (c.len.result - c.args.n) c.args.pieces.now written can.room))
    (rw c.in-Err.is at c.begin_records.ensures.answer)
