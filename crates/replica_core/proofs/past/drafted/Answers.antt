use Rattle.std.proofs.Common.{◌+◌, ◌-◌, ◌<◌, length, sym, ◌∙◌, refl, arith}
use Rattle.replica_core.proofs.CameLemmas.{of_head}
use Rattle.replica_core.proofs.PastLemmas.{drafted_own, drafted_other}
use Rattle.replica_core.proofs.past.drafted.Goals.{then-head-doc+in_ok-take, else-head-doc}
use Rattle.replica_core.proofs.past.drafted.Goals as goal

pub take-requires-clause-own : goal.take-requires-clause-own
take-requires-clause-own c = λ op is.
    let within = c.loop-left.invariant.within in
    let here : c.loop-left.next < length c.args.list.now = omega (arith, within, c.len.ensures, c.if-next-len.false) in
    sym (of_head c.args.list.now c.loop-left.next c.head.result op here c.head.ensures is) ∙ (c.if-head-doc.true ∙ sym c.loop-left.invariant.number)

pub loop-left-preserved : goal.loop-left-preserved
loop-left-preserved c =
    let within = c.loop-left.invariant.within in
    let here : c.loop-left.next < length c.args.list.now = omega (arith, within, c.len.ensures, c.if-next-len.false) in
    elim c.if-head-doc.branch [
      | then-head-doc+in_ok-take w ↦ rw (w.draft-is, w.left-is)
          (drafted_own c.loop-left.draft w.take.new.draft c.args.list.now c.args.doc c.args.count c.loop-left.left (c.loop-left.left - 1) c.loop-left.next
          (c.loop-left.next + 1) c.head.result c.loop-left.invariant here (omega (arith, c.loop-left-test.true)) refl c.head.ensures w.if-head-doc.true
          w.in_ok-take.ensures.number w.in_ok-take.ensures.taken)
      | else-head-doc w ↦ rw (w.draft-is, w.left-is)
          (drafted_other c.loop-left.draft c.args.list.now c.args.doc c.args.count c.loop-left.left c.loop-left.next (c.loop-left.next + 1) c.head.result
          c.loop-left.invariant here refl c.head.ensures w.if-head-doc.false)
    ]
