use Rattle.std.proofs.Common.{length, refl, sym}
use Rattle.replica_core.specs.Docs.{doc_number}
use Rattle.op_model.specs.Text.{visible}
use Rattle.replica_core.proofs.LengthLemmas.{IsDelete, insert_content, insert_inside, mark_inside, unmark_inside}
use Rattle.replica_core.proofs.LengthLemmas.{lengths-insert, lengths-delete, lengths-mark, lengths-unmark}
use Rattle.replica_core.proofs.lengths.bodies_length.Goals as goal

pub returns-in-Insert-clause-value : goal.returns-in-Insert-clause-value
returns-in-Insert-clause-value c = λ ops replica stands inside.
    let doc = doc_number c.args.doc.now in
    let within = insert_inside (length (visible ops doc)) c.in-Insert.at c.in-Insert.text c.args.change.now c.in-Insert.is inside in
    let all = lengths-insert ops replica doc c.in-Insert.at c.in-Insert.text c.args.change.now c.in-Insert.is c.as_slice.ensures.some in
    rw (all, c.insert_length.ensures, c.insert_length-in-Insert.ensures, insert_content c.has_origin.result, c.has_origin.ensures ops stands within, c.as_slice.ensures.same) refl

pub returns-in-Delete-clause-value : goal.returns-in-Delete-clause-value
returns-in-Delete-clause-value c = λ ops replica stands inside.
    let is_it : IsDelete c.args.change.now c.get.result = rw c.in-Delete.is c.get.ensures.value in
    sym (lengths-delete ops replica (doc_number c.args.doc.now) c.get.result c.args.change.now is_it inside)

pub returns-in-Mark-clause-value : goal.returns-in-Mark-clause-value
returns-in-Mark-clause-value c = λ ops replica stands inside.
    let doc = doc_number c.args.doc.now in
    let within = mark_inside (length (visible ops doc)) c.in-Mark.from c.in-Mark.to c.in-Mark.mark c.args.change.now c.in-Mark.is inside in
    let all = lengths-mark ops replica doc c.in-Mark.from c.in-Mark.to c.in-Mark.mark c.args.change.now c.in-Mark.is inside in
    let last = c.has_end.ensures ops stands within.0 within.1 in
    rw (all, c.record_length.ensures.value, c.place_length.ensures, c.place_length-in-Mark.ensures, last, c.key.ensures) refl

pub returns-in-Unmark-clause-value : goal.returns-in-Unmark-clause-value
returns-in-Unmark-clause-value c = λ ops replica stands inside.
    let doc = doc_number c.args.doc.now in
    let within = unmark_inside (length (visible ops doc)) c.in-Unmark.from c.in-Unmark.to c.in-Unmark.key c.args.change.now c.in-Unmark.is inside in
    let all = lengths-unmark ops replica doc c.in-Unmark.from c.in-Unmark.to c.in-Unmark.key c.args.change.now c.in-Unmark.is inside in
    let last = c.has_end-in-Unmark.ensures ops stands within.0 within.1 in
    rw (all, c.record_length-in-Unmark.ensures.value, c.place_length-in-Unmark.ensures, c.place_length-in-Unmark-2.ensures, last) refl
