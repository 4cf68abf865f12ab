use native.Mathlib.Omega.{arith}
use Rattle.std.proofs.Common.{◌≡◌, ◌∙◌, refl, ap, map, subst}
use Rattle.op_model.specs.Causality.{IsCausallyClosed}
use Rattle.op_model.specs.Held.{ReplicaHeld}
use Rattle.op_model.specs.declared.change_step.ChangeStep.TheVariants.{Put}
use Rattle.replica_core.proofs.CameLemmas.{put_since_none}
use Rattle.replica_core.proofs.DocLemmas.{docs_up}
use Rattle.replica_core.proofs.replica.Replica.changes.Goals as goal

pub find-document-requires-clause-rising : goal.find-document-requires-clause-rising
find-document-requires-clause-rising c = rw c.deref.ensures.value (docs_up c.self.inside.log.docs.items c.self.inside.log.list c.self.invariant.docs)

pub returns-then-since-eq0 : goal.returns-then-since-eq0
returns-then-since-eq0 c =
    let list : c.self.inside.log.list ≡ c.args.self.now.list = ap (λ (h : ReplicaHeld). h.list) c.self.view_is in
    let closed : IsCausallyClosed c.args.self.now.list = subst (λ ops. IsCausallyClosed ops) list c.self.invariant.sound.closed in
    record {
      changes = record {
        within = omega (arith, c.if-since-eq0.true);
        are = λ before more all is.
            c.in_ok-all_put.ensures ∙ (ap (λ found. map Put found) c.in_ok-spans.ensures.spans
            ∙ put_since_none c.args.self.now.list before more c.args.doc closed all (is ∙ c.if-since-eq0.true));
      };
      first = λ is. refl;
      later = λ opened now. refl;
    }
