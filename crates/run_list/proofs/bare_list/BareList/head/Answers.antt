use Rattle.std.proofs.Common.{◌≢◌, length, get_or, ap, ◌∙◌, arith}
use Rattle.op_list.specs.Heads.{heads}
use Rattle.run_list.proofs.Found.{rising, some_begun, few, found_in, start_is, head_begins, head_counter, head_stands}
use Rattle.run_list.proofs.Unrolling.{shown}
use Rattle.run_list.proofs.bare_list.BareList.head.Goals as goal

pub run_of-run-requires-clause-rising : goal.run_of-run-requires-clause-rising
run_of-run-requires-clause-rising c =
    let holds = shown _ _ _ c.args.self.now c.self.invariant c.self.view_is in
    rising _ _ _ _ _ holds c.deref.ensures.value

pub run_of-run-requires-clause-some : goal.run_of-run-requires-clause-some
run_of-run-requires-clause-some c =
    let holds = shown _ _ _ c.args.self.now c.self.invariant c.self.view_is in
    some_begun _ _ _ _ _ _ holds c.deref.ensures.value c.requires

pub run_of-run-requires-clause-small : goal.run_of-run-requires-clause-small
run_of-run-requires-clause-small c =
    let holds = shown _ _ _ c.args.self.now c.self.invariant c.self.view_is in
    let most = few _ _ _ _ holds in
    omega (arith, c.requires)

pub index-requires : goal.index-requires
index-requires c =
    let holds = shown _ _ _ c.args.self.now c.self.invariant c.self.view_is in
    let it = found_in _ _ _ _ _ _ _ holds c.deref.ensures.value c.requires c.run_of-run.ensures in
    omega (arith, it.run)

pub head-first-requires : goal.head-first-requires
head-first-requires c =
    let holds = shown _ _ _ c.args.self.now c.self.invariant c.self.view_is in
    let it = found_in _ _ _ _ _ _ _ holds c.deref.ensures.value c.requires c.run_of-run.ensures in
    omega (arith, it.whole, ap length c.as_slice.ensures)

pub overflow_sub-i : goal.overflow_sub-i
overflow_sub-i c =
    let holds = shown _ _ _ c.args.self.now c.self.invariant c.self.view_is in
    let it = found_in _ _ _ _ _ _ _ holds c.deref.ensures.value c.requires c.run_of-run.ensures in
    omega (arith, it.begun, start_is _ _ _ it.run c.index.ensures)

pub head_at-requires-clause-some : goal.head_at-requires-clause-some
head_at-requires-clause-some c =
    let holds = shown _ _ _ c.args.self.now c.self.invariant c.self.view_is in
    let it = found_in _ _ _ _ _ _ _ holds c.deref.ensures.value c.requires c.run_of-run.ensures in
    let start = start_is _ _ _ it.run c.index.ensures in
    let begun = it.begun in
    let other : c.index.result.now ≢ c.args.i = c.if-start-i.false in
    omega arith

pub returns-then-start-i : goal.returns-then-start-i
returns-then-start-i c =
    let holds = shown _ _ _ c.args.self.now c.self.invariant c.self.view_is in
    let it = found_in _ _ _ _ _ _ _ holds c.deref.ensures.value c.requires c.run_of-run.ensures in
    let start = start_is _ _ _ it.run c.index.ensures in
    let head = c.head-first.ensures ∙ ap (λ fs. get_or (heads fs) c.run_of-run.result c.head-first.result) c.as_slice.ensures in
    head_begins c.self.inside.marks.items c.self.inside.firsts c.self.inside.starts.items c.args.self.now c.args.i c.run_of-run.result
    c.index.result.now c.head-first.result c.head-first.result it c.requires start c.if-start-i.true head

pub head_at-requires-clause-fits : goal.head_at-requires-clause-fits
head_at-requires-clause-fits c =
    let holds = shown _ _ _ c.args.self.now c.self.invariant c.self.view_is in
    let it = found_in _ _ _ _ _ _ _ holds c.deref.ensures.value c.requires c.run_of-run.ensures in
    let start = start_is _ _ _ it.run c.index.ensures in
    let other : c.index.result.now ≢ c.args.i = c.if-start-i.false in
    let head = c.head-first.ensures ∙ ap (λ fs. get_or (heads fs) c.run_of-run.result c.head-first.result) c.as_slice.ensures in
    head_counter c.self.inside.marks.items c.self.inside.firsts c.self.inside.starts.items c.args.self.now c.args.i c.run_of-run.result
    c.index.result.now c.head-first.result it c.requires holds.fits start other head

pub returns : goal.returns
returns c =
    let holds = shown _ _ _ c.args.self.now c.self.invariant c.self.view_is in
    let it = found_in _ _ _ _ _ _ _ holds c.deref.ensures.value c.requires c.run_of-run.ensures in
    let start = start_is _ _ _ it.run c.index.ensures in
    let other : c.index.result.now ≢ c.args.i = c.if-start-i.false in
    let head = c.head-first.ensures ∙ ap (λ fs. get_or (heads fs) c.run_of-run.result c.head-first.result) c.as_slice.ensures in
    c.head_at.ensures
    ∙ head_stands c.self.inside.marks.items c.self.inside.firsts c.self.inside.starts.items c.args.self.now c.args.i c.run_of-run.result
    c.index.result.now c.head-first.result c.head_at.result it c.requires start other head
