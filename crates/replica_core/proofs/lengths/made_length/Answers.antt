use Rattle.std.proofs.Common.{◌≡◌, ◌∙◌, ◌<◌, true, length, refl, ap, arith}
use Rattle.replica_core.specs.Docs.{doc_number}
use Rattle.op_ids.specs.Clock.{advanced, count_of, is_clock}
use Rattle.op_model.specs.Causality.{clock_of}
use Rattle.op_model.specs.Made.{bodies_of, is_inside, size_of}
use Rattle.op_model.specs.Text.{visible}
use Rattle.replica_core.specs.Deciding.{lengths}
use Rattle.replica_core.proofs.LengthLemmas.{stream_length-made, length-advanced_new, length-advanced_old}
use Rattle.replica_core.proofs.lengths.made_length.Goals as goal
use Rattle.replica_core.proofs.lengths.made_length.Goals.{then-get-eq0, else-get-eq0}

pub returns : goal.returns
returns c = λ ops stands number clock right.
    let is_it : is_clock (clock_of ops) ≡ true = rw clock at c.get.ensures.rising in
    let count : c.get.result ≡ count_of (clock_of ops) c.args.replica = rw clock at c.get.ensures.value in
    let first : c.len-first.result ≡ length (clock_of ops) = rw clock at c.len-first.ensures.value in
    let later : c.if-get-eq0.later ≡ length (advanced (clock_of ops) c.args.replica) = elim c.if-get-eq0.branch [
      | then-get-eq0 w ↦ w.later-is ∙ omega (arith, length-advanced_new (clock_of ops) c.args.replica is_it (omega arith))
      | else-get-eq0 w ↦ w.later-is ∙ omega (arith, length-advanced_old (clock_of ops) c.args.replica is_it (omega arith))
    ] in
    let some : 0 < size_of c.args.edit.now.change = rw c.size-count.ensures.value at c.size-count.ensures.some in
    let all = stream_length-made ops c.args.replica c.args.edit.now c.if-get-eq0.later right some later in
    let inside : is_inside (length (visible ops (doc_number c.args.doc.now))) c.args.edit.now.change ≡ true = rw number right.inside in
    let bodies = c.bodies_length.ensures.value ops c.args.replica stands inside
    ∙ ap (λ n. lengths (bodies_of ops c.args.replica n c.args.edit.now.change)) number in
    rw (all, ← c.size-count.ensures.value, ← first, c.heads_length.ensures.value, c.tokens_length.ensures.value, bodies) refl
