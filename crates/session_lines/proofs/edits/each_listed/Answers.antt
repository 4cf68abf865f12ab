use Rattle.std.proofs.Common.{arith}
use Rattle.serde_json.specs.View.{items_view}
use Rattle.session_lines.specs.Edits.{listed_changes}
use Rattle.std.proofs.lemmas.Result.{IfOk-from_err}
use Rattle.session_lines.proofs.ReadLemmas.{no_other_refusal, same_refusal}
use Rattle.session_lines.proofs.EditLemmas.{listed_more, listed_stops, listed_end}
use Rattle.session_lines.proofs.edits.each_listed.Goals as goal

pub returns-in_err-changes : goal.returns-in_err-changes
returns-in_err-changes c = record { ok = IfOk-from_err _ _ c.from_residual.ensures.0; err = no_other_refusal _ _ c.from_residual.ensures.1 }

pub returns-in_err-places : goal.returns-in_err-places
returns-in_err-places c = record { ok = IfOk-from_err _ _ c.from_residual-in_err-places.ensures.0; err = no_other_refusal _ _ c.from_residual-in_err-places.ensures.1 }

pub returns-in_err-change : goal.returns-in_err-change
returns-in_err-change c = record {
  ok = IfOk-from_err _ _ c.from_residual-in_err-change.ensures.0;
  err =
      same_refusal _ (listed_changes (items_view c.args.items.now)) c.from_residual-in_err-change.ensures.1
      (λ other. listed_stops c.args.items.now c.loop-item.item-index c.item-item.result c.loop-item.changes.items c.loop-item.places.items _
      (listed_changes (items_view c.args.items.now)) c.loop-item-test.true c.item-item.is (c.in_err-change.ensures other) c.loop-item.invariant);
}

pub returns-in_err-push : goal.returns-in_err-push
returns-in_err-push c = record { ok = IfOk-from_err _ _ c.from_residual-in_err-push.ensures.0; err = no_other_refusal _ _ c.from_residual-in_err-push.ensures.1 }

pub returns-in_err-push-2 : goal.returns-in_err-push-2
returns-in_err-push-2 c = record { ok = IfOk-from_err _ _ c.from_residual-in_err-push-2.ensures.0; err = no_other_refusal _ _ c.from_residual-in_err-push-2.ensures.1 }

pub loop-item-preserved : goal.loop-item-preserved
loop-item-preserved c =
    rw (c.in_ok-push.ensures.items, c.in_ok-push-2.ensures.items)
    (listed_more c.args.items.now c.loop-item.item-index c.item-item.result c.loop-item.changes.items c.loop-item.places.items
    c.in_ok-change.field-0 (listed_changes (items_view c.args.items.now)) (omega arith)
    c.item-item.is c.in_ok-change.ensures c.loop-item.invariant)

pub returns-clause-ok : goal.returns-clause-ok
returns-clause-ok c =
    listed_end c.args.items.now c.loop-item.item-index c.loop-item.changes.items c.loop-item.places.items
    (listed_changes (items_view c.args.items.now)) c.loop-item-test.false c.loop-item.invariant
