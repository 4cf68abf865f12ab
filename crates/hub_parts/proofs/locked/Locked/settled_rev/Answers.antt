use Rattle.std.proofs.Common.{◌==◌, cond, arith, sym, ◌∙◌}
use Rattle.std.proofs.lemmas.List.Sums.{sum_by-take-drop}
use Rattle.op_model.specs.declared.op.Op.{Op}
use Rattle.hub_parts.proofs.SettledRevs.{as_many, one_less}
use Rattle.hub_parts.proofs.locked.Locked.settled_rev.Goals as goal
use Rattle.hub_parts.proofs.locked.Locked.settled_rev.Goals.{then-head-doc, else-head-doc}

-- all operations of the document are the settled ones and the others
pub loop-i-init : goal.loop-i-init
loop-i-init c =
    let all = c.args.self.now.replica in
    rw (c.list-list.ensures.list, c.settled-i.ensures)
    (c.rev-count.ensures ∙ sym (sum_by-take-drop (λ (o : Op). cond (o.doc == c.args.doc) 1 0) all.list all.settled))

pub overflow_sub-count : goal.overflow_sub-count
overflow_sub-count c =
    omega (
      arith,
      c.loop-i.invariant,
      one_less c.list-list.result c.loop-i.i c.args.doc c.head.result (omega arith) c.head.ensures c.if-head-doc.true,
    )

pub loop-i-preserved : goal.loop-i-preserved
loop-i-preserved c =
    let list = c.list-list.result in
    elim c.if-head-doc.branch [
      | then-head-doc w ↦ omega (
        arith,
        w.count-is,
        c.loop-i.invariant,
        one_less list c.loop-i.i c.args.doc c.head.result (omega arith) c.head.ensures w.if-head-doc.true,
      )
      | else-head-doc w ↦ omega (
        arith,
        w.count-is,
        c.loop-i.invariant,
        as_many list c.loop-i.i c.args.doc c.head.result (omega arith) c.head.ensures w.if-head-doc.false,
      )
    ]
