use Rattle.std.proofs.Common.{List, Option, Ok, ap, sym, ◌∙◌}
use Rattle.serde_json.specs.View.{items_view}
use Rattle.op_model.specs.declared.lasting.Lasting.{Lasting}
use Rattle.session_lines.specs.Fields.{or_field}
use Rattle.session_lines.specs.Several.{as_lasting, each}
use Rattle.session_lines.proofs.ReadLemmas.{out_of_memory}
use Rattle.session_lines.proofs.SeveralLemmas.{each_more, each_end}
use Rattle.session_lines.proofs.several.each_anchor.Goals as goal

pub returns-in_err-anchors : goal.returns-in_err-anchors
returns-in_err-anchors c = out_of_memory _ _ c.from_residual.ensures.1

pub returns-in_err-push : goal.returns-in_err-push
returns-in_err-push c = out_of_memory _ _ c.from_residual-in_err-push.ensures.1

pub loop-item-preserved : goal.loop-item-preserved
loop-item-preserved c =
    rw c.in_ok-push.ensures.items
    (each_more as_lasting c.args.items.now c.loop-item.item-index c.item-item.result c.loop-item.anchors.items c.in-Some.anchor
    (each as_lasting (items_view c.args.items.now)) c.loop-item-test.true c.item-item.is (sym c.in-Some.ensures) c.loop-item.invariant)

pub returns : goal.returns
returns c =
    let all = each_end as_lasting c.args.items.now c.loop-item.item-index c.loop-item.anchors.items
    (each as_lasting (items_view c.args.items.now)) c.loop-item-test.false c.loop-item.invariant in
    ap (λ (o : Option (List Lasting)). or_field o) all ∙ ap (λ (xs : List Lasting). Ok xs) (sym c.from.ensures)
