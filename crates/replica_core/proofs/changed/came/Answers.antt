use Rattle.std.proofs.Common.{◌-◌, ◌≤◌, ◌<◌, ◌∙◌, length, sym, arith}
use Rattle.replica_core.proofs.CameLemmas.{back_known, back_none, back_own, back_past, of_head}
use Rattle.replica_core.proofs.changed.came.Goals as goal

pub back-init : goal.back-init
back-init c =
    rw c.len-next.ensures (back_none c.new-came.result c.args.list.now c.args.doc c.args.count (c.new-came.ensures c.args.list.now))

pub back-preserved-in_ok-take_before : goal.back-preserved-in_ok-take_before
back-preserved-in_ok-take_before c =
    let at = c.back-test.true in
    let back = c.back.invariant in
    let within = back.within in
    let here : c.back.next - 1 < length c.args.list.now = (let known = c.if-next-repeats.false in omega arith) in
    let known : c.args.repeats.now.from ≤ c.back.next - 1 = (let known = c.if-next-repeats.false in omega arith) in
    let own = sym (of_head c.args.list.now (c.back.next - 1) c.head.result c.in_ok-op.op here c.head.ensures c.in_ok-op.ensures) ∙ c.if-head-doc.true in
    back_own c.back.came c.take_before.new.self c.args.list.now c.args.doc c.args.count c.back.left (c.back.left - 1) c.back.next (c.back.next - 1)
    c.in_ok-op.op c.has.result back (let known = c.if-next-repeats.false in omega arith) (omega arith) c.in_ok-op.ensures own
    (c.has.ensures ∙ c.requires.noted (c.back.next - 1) known) c.in_ok-take_before.ensures

pub back-preserved-in_ok-take_before-2 : goal.back-preserved-in_ok-take_before-2
back-preserved-in_ok-take_before-2 c =
    let at = c.back-test.true in
    let back = c.back.invariant in
    let within = back.within in
    let here : c.back.next - 1 < length c.args.list.now = (let known = c.if-next-repeats.false in omega arith) in
    let known : c.args.repeats.now.from ≤ c.back.next - 1 = (let known = c.if-next-repeats.false in omega arith) in
    let own = sym (of_head c.args.list.now (c.back.next - 1) c.head.result c.in_ok-op.op here c.head.ensures c.in_ok-op.ensures) ∙ c.if-head-doc.true in
    back_own c.back.came c.take_before.new.self c.args.list.now c.args.doc c.args.count c.back.left (c.back.left - 1) c.back.next (c.back.next - 1)
    c.in_ok-op.op c.has.result back (let known = c.if-next-repeats.false in omega arith) (omega arith) c.in_ok-op.ensures own
    (c.has.ensures ∙ c.requires.noted (c.back.next - 1) known) c.in_ok-take_before.ensures

pub back-preserved-in_ok-take_before-3 : goal.back-preserved-in_ok-take_before-3
back-preserved-in_ok-take_before-3 c =
    let at = c.back-test.true in
    let back = c.back.invariant in
    let within = back.within in
    let here : c.back.next - 1 < length c.args.list.now = (let known = c.if-next-repeats.false in omega arith) in
    let known : c.args.repeats.now.from ≤ c.back.next - 1 = (let known = c.if-next-repeats.false in omega arith) in
    let own = sym (of_head c.args.list.now (c.back.next - 1) c.head.result c.in_ok-op.op here c.head.ensures c.in_ok-op.ensures) ∙ c.if-head-doc.true in
    back_own c.back.came c.take_before.new.self c.args.list.now c.args.doc c.args.count c.back.left (c.back.left - 1) c.back.next (c.back.next - 1)
    c.in_ok-op.op c.has.result back (let known = c.if-next-repeats.false in omega arith) (omega arith) c.in_ok-op.ensures own
    (c.has.ensures ∙ c.requires.noted (c.back.next - 1) known) c.in_ok-take_before.ensures

pub back-preserved : goal.back-preserved
back-preserved c =
    back_past c.back.came c.args.list.now c.args.doc c.args.count c.back.left c.back.next (c.back.next - 1) c.head.result c.back.invariant
    (let known = c.if-next-repeats.false in omega arith) c.head.ensures c.if-head-doc.false

-- what is left came before the notes begin
pub returns-then-next-repeats-clause-known : goal.returns-then-next-repeats-clause-known
returns-then-next-repeats-clause-known c = λ late.
    absurd (back_known c.back.came c.args.list.now c.args.doc c.args.count c.back.left c.back.next c.args.repeats.now.from c.back-test.true c.back.invariant
    c.if-next-repeats.true late)
