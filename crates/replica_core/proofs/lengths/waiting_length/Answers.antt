use Rattle.std.proofs.Common.{◌≡◌, ◌<◌, ◌≤◌, ◌∙◌, true, length, ap, arith}
use Rattle.replica_core.specs.Docs.{doc_number}
use Rattle.op_model.specs.Made.{is_inside, origin_of}
use Rattle.op_model.specs.Records.{origin_length}
use Rattle.op_model.specs.Text.{visible}
use Rattle.replica_core.proofs.LengthLemmas.{insert_content, insert_inside}
use Rattle.replica_core.proofs.WaitingLemmas.{change_one, change_run}
use Rattle.replica_core.proofs.lengths.waiting_length.Goals as goal

pub returns-then-others-eq0 : goal.returns-then-others-eq0
returns-then-others-eq0 c = λ ops replica stands number clock right bytes.
    let few : length c.in-Insert.text ≤ 1 = omega (arith, ap length c.as_slice.ensures.same, c.if-others-eq0.true) in
    bytes ∙ change_one ops replica c.args.edit.now c.in-Insert.at c.in-Insert.text c.args.edit.now.change c.in-Insert.is few

pub returns-else-others-eq0 : goal.returns-else-others-eq0
returns-else-others-eq0 c = λ ops replica stands number clock right bytes.
    let e = c.args.edit.now in
    let long = ap length c.as_slice.ensures.same in
    let more : 1 < length c.in-Insert.text = omega (arith, long, c.as_slice.ensures.some, c.if-others-eq0.false) in
    let inside : is_inside (length (visible ops (doc_number c.args.doc.now))) e.change ≡ true = rw number right.inside in
    let within = insert_inside (length (visible ops (doc_number c.args.doc.now))) c.in-Insert.at c.in-Insert.text e.change c.in-Insert.is inside in
    let origin = c.has_origin.ensures ops stands within ∙ ap (λ n. origin_length (origin_of ops n c.in-Insert.at)) number in
    let content = c.insert_length.ensures ∙ insert_content c.has_origin.result in
    let first = ap length clock in
    omega (
      arith,
      change_run ops replica e c.in-Insert.at c.in-Insert.text e.change c.in-Insert.is more,
      long,
      content,
      origin,
      first,
      c.len.ensures.value,
      c.head_length.ensures.value,
      c.tokens_length.ensures.value,
    )
