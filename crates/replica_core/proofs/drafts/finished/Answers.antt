use Rattle.std.proofs.Common.{◌≡◌, ◌∙◌, ◌∷◌}
use Rattle.std.specs.Vec.Iter.{into_iter_items}
use Rattle.replica_core.proofs.DraftLemmas.{docs_push, stand_push}
use Rattle.replica_core.proofs.drafts.finished.Goals as goal

pub loop-draft-preserved : goal.loop-draft-preserved
loop-draft-preserved c =
    let at = c.loop-draft in
    let steps : into_iter_items at.draft-iterator ≡ c.in-Some.draft ∷ into_iter_items c.next.new.self = c.in-Some.ensures.steps.0 in
    record {
      numbers = rw (c.in_ok-push.ensures.items)
          (docs_push at.docs.items c.in_ok-doc.doc c.in-Some.draft (into_iter_items c.next.new.self) c.in_ok-doc.ensures.number ∙ rw steps at at.invariant.numbers);
      stand = λ ops all.
          let drafts = rw steps at (at.invariant.drafts ops all) in
          rw (c.in_ok-push.ensures.items)
          (stand_push at.docs.items c.in_ok-doc.doc ops (at.invariant.stand ops all) (c.in_ok-doc.ensures.stands ops drafts.0));
      drafts = λ ops all. let drafts = rw steps at (at.invariant.drafts ops all) in drafts.1;
    }
