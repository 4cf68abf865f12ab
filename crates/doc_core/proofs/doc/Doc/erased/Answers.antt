use Rattle.std.proofs.Common.{length, ◌≡◌, ◌∙◌, ap, sym, arith}
use Rattle.std.proofs.lemmas.List.{length-map}
use Rattle.op_model.specs.declared.op.Body.TheVariants.{Remove}
use Rattle.doc_core.proofs.LimitLemmas.{are_few, fewer_room}
use Rattle.doc_core.proofs.MakingLemmas.{made_removes, removes_numbered}
use Rattle.doc_core.proofs.doc.Doc.erased.Goals as goal

pub numbered-requires-clause-above_zero : goal.numbered-requires-clause-above_zero
numbered-requires-clause-above_zero c = (are_few c.args.author.now _ c.requires.limit).above_zero

pub numbered-requires-clause-in_range : goal.numbered-requires-clause-in_range
numbered-requires-clause-in_range c =
    let many = ap length (c.deref-2.ensures.value ∙ c.in_ok-bodies.ensures) ∙ length-map c.deref.result.now Remove in
    let as_many = ap length c.deref.ensures.value in
    let few = c.in_ok-targets.ensures.few in
    let limit = (are_few c.args.author.now _ c.requires.limit).in_range in
    omega arith

pub numbered-requires-clause-room : goal.numbered-requires-clause-room
numbered-requires-clause-room c =
    let many = ap length (c.deref-2.ensures.value ∙ c.in_ok-bodies.ensures) ∙ length-map c.deref.result.now Remove in
    let as_many = ap length c.deref.ensures.value in
    let few = c.in_ok-targets.ensures.few in
    fewer_room c.args.author.now (length c.deref-2.result.now) _ c.requires.valid c.replica_is_not_nil.ensures (omega arith) c.requires.limit

pub invariant_of-result : goal.invariant_of-result
invariant_of-result c =
    rw (c.in_ok-ops.ensures, c.deref-2.ensures.value, c.in_ok-bodies.ensures, c.deref.ensures.value)
    (removes_numbered c.args.author.now.replica _ c.args.author.now.token c.args.author.now.counter c.args.author.now.clock.now c.in_ok-targets.targets.items)

pub returns : goal.returns
returns c = λ ops edit stands next same_doc same_token same_change.
    let number = ap (λ d. d.number) c.self.view_is in
    let got : c.get.result ≡ c.args.count.value = c.get.ensures.value in
    rw c.in_ok-ops.ensures
    (made_removes ops edit c.args.author.now.replica _ c.args.author.now.token c.args.author.now.counter c.args.at _ c.args.author.now.clock.now
    c.in_ok-targets.targets.items c.deref.result.now c.in_ok-bodies.bodies.items c.deref-2.result.now next (same_doc ∙ sym number) same_token same_change
    c.deref-2.ensures.value c.in_ok-bodies.ensures c.deref.ensures.value (rw (number, ← got) (c.in_ok-targets.ensures.all ops stands)))
