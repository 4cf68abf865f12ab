use Rattle.std.proofs.Common.{◌≡◌, ◌∙◌, ap}
use Rattle.op_model.specs.Spans.{spans}
use Rattle.replica_core.specs.Docs.{AreDocs}
use Rattle.op_model.specs.Held.{ReplicaHeld}
use Rattle.replica_core.proofs.DocLemmas.{docs_up}
use Rattle.replica_core.proofs.replica.Replica.spans.Goals as goal

pub find-requires-clause-rising : goal.find-requires-clause-rising
find-requires-clause-rising c = rw c.deref.ensures.value (docs_up c.self.inside.log.docs.items c.self.inside.log.list c.self.invariant.docs)

pub returns-clause-spans : goal.returns-clause-spans
returns-clause-spans c =
    let list : c.self.inside.log.list ≡ c.args.self.now.list = ap (λ (h : ReplicaHeld). h.list) c.self.view_is in
    let docs : AreDocs c.deref.result.now c.self.inside.log.list = rw c.deref.ensures.value c.self.invariant.docs in
    c.in_ok-spans.ensures.spans c.self.inside.log.list (c.find.ensures.stands c.self.inside.log.list docs)
    ∙ (ap (λ doc. spans c.self.inside.log.list doc) (c.find.ensures.number ∙ c.new-empty.ensures.number)
    ∙ ap (λ ops. spans ops c.args.doc) list)
