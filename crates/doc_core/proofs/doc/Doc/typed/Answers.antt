use Rattle.std.proofs.Common.{length, ◌∙◌, ap, arith}
use Rattle.doc_core.proofs.LimitLemmas.{are_few}
use Rattle.model_laws.proofs.EditLimits.{length-insert_bodies, length-numbered}
use Rattle.doc_core.proofs.MakingLemmas.{run_numbered}
use Rattle.doc_core.proofs.doc.Doc.typed.Goals as goal

pub numbered-requires-clause-in_range : goal.numbered-requires-clause-in_range
numbered-requires-clause-in_range c =
    let bodies = c.deref.ensures.value ∙ c.in_ok-bodies.ensures in
    let many = ap length bodies ∙ length-insert_bodies c.args.author.now.replica c.args.author.now.counter _ c.as_slice-text.result.now in
    let text = ap length c.as_slice-text.ensures.same in
    let limit = (are_few c.args.author.now (length c.args.text.now) c.requires.limit).in_range in
    omega arith

pub numbered-requires-clause-room : goal.numbered-requires-clause-room
numbered-requires-clause-room c =
    let bodies = c.deref.ensures.value ∙ c.in_ok-bodies.ensures in
    let many = ap length bodies ∙ length-insert_bodies c.args.author.now.replica c.args.author.now.counter _ c.as_slice-text.result.now in
    let text = ap length c.as_slice-text.ensures.same in
    rw (many, text) (are_few c.args.author.now (length c.args.text.now) c.requires.limit).room

pub invariant_of-result : goal.invariant_of-result
invariant_of-result c =
    let bodies = c.deref.ensures.value ∙ c.in_ok-bodies.ensures in
    let ops = c.in_ok-ops.ensures in
    let some = c.as_slice-text.ensures.some in
    let text = ap length c.as_slice-text.ensures.same in
    let many = ap length bodies ∙ length-insert_bodies c.args.author.now.replica c.args.author.now.counter _ c.as_slice-text.result.now in
    let long = ap length ops ∙ length-numbered c.args.author.now.replica c.self.inside.doc c.args.author.now.token c.args.author.now.counter c.args.author.now.clock.now c.deref.result.now in (
      rw (c.in_ok-run.ensures, ops, bodies) (run_numbered c.args.author.now.replica c.self.inside.doc c.args.author.now.token c.args.author.now.counter c.args.author.now.clock.now _ c.as_slice-text.result.now),
      omega arith,
    )
