use Rattle.std.proofs.Common.{◌≡◌, ◌≢◌, ◌-◌, length, get_or, ap, sym, ◌∙◌, arith, rules}
use Rattle.std.specs.Char.{IsScalar}
use Rattle.op_model.specs.declared.op.Op.{Op}
use Rattle.run_list.specs.Reading.{typed_at}
use Rattle.run_list.proofs.Found.{rising, some_begun, few, found_in, start_is, begins_it, stands_behind, fits_behind, scalar_behind}
use Rattle.run_list.proofs.Unrolling.{shown}
use Rattle.run_list.proofs.bare_list.BareList.get.Goals as goal

pub run_of-run-requires-clause-rising : goal.run_of-run-requires-clause-rising
run_of-run-requires-clause-rising c =
    let holds = shown _ _ _ c.args.self.now c.self.invariant c.self.view_is in
    rising _ _ _ _ _ holds c.deref.ensures.value

pub run_of-run-requires-clause-some : goal.run_of-run-requires-clause-some
run_of-run-requires-clause-some c =
    let holds = shown _ _ _ c.args.self.now c.self.invariant c.self.view_is in
    some_begun _ _ _ _ _ _ holds c.deref.ensures.value c.requires

pub run_of-run-requires-clause-small : goal.run_of-run-requires-clause-small
run_of-run-requires-clause-small c =
    let holds = shown _ _ _ c.args.self.now c.self.invariant c.self.view_is in
    let most = few _ _ _ _ holds in
    omega (arith, c.requires)

pub index-requires : goal.index-requires
index-requires c =
    let holds = shown _ _ _ c.args.self.now c.self.invariant c.self.view_is in
    let it = found_in _ _ _ _ _ _ _ holds c.deref.ensures.value c.requires c.run_of-run.ensures in
    omega (arith, it.run)

pub get-requires : goal.get-requires
get-requires c =
    let holds = shown _ _ _ c.args.self.now c.self.invariant c.self.view_is in
    let it = found_in _ _ _ _ _ _ _ holds c.deref.ensures.value c.requires c.run_of-run.ensures in
    omega (arith, it.whole, ap length c.as_slice.ensures)

pub returns-then-start-i : goal.returns-then-start-i
returns-then-start-i c =
    let holds = shown _ _ _ c.args.self.now c.self.invariant c.self.view_is in
    let it = found_in _ _ _ _ _ _ _ holds c.deref.ensures.value c.requires c.run_of-run.ensures in
    let first = c.in_ok-first.ensures ∙ ap (λ fs. get_or fs c.run_of-run.result c.in_ok-first.first) c.as_slice.ensures in
    begins_it _ _ _ _ _ _ c.index.result.now c.in_ok-first.first c.in_ok-first.first it (start_is _ _ _ it.run c.index.ensures) c.if-start-i.true first

pub index-requires-2 : goal.index-requires-2
index-requires-2 c =
    let holds = shown _ _ _ c.args.self.now c.self.invariant c.self.view_is in
    let it = found_in _ _ _ _ _ _ _ holds c.deref.ensures.value c.requires c.run_of-run.ensures in
    omega (arith, it.inside)

pub overflow_sub-i : goal.overflow_sub-i
overflow_sub-i c =
    let holds = shown _ _ _ c.args.self.now c.self.invariant c.self.view_is in
    let it = found_in _ _ _ _ _ _ _ holds c.deref.ensures.value c.requires c.run_of-run.ensures in
    omega (arith, it.begun, start_is _ _ _ it.run c.index.ensures)

pub typed_at-requires-clause-some : goal.typed_at-requires-clause-some
typed_at-requires-clause-some c =
    let holds = shown _ _ _ c.args.self.now c.self.invariant c.self.view_is in
    let it = found_in _ _ _ _ _ _ _ holds c.deref.ensures.value c.requires c.run_of-run.ensures in
    let start = start_is _ _ _ it.run c.index.ensures in
    let begun = it.begun in
    let other : c.index.result.now ≢ c.args.i = c.if-start-i.false in
    omega arith

is_typed : (c : goal.In-Some) (d : Op) → get_or c.args.self.now c.args.i d ≡ typed_at c.in_ok-first.first (c.args.i - c.index.result.now) c.in-Some.value
is_typed c d =
    let holds = shown _ _ _ c.args.self.now c.self.invariant c.self.view_is in
    let it = found_in _ _ _ _ _ _ _ holds c.deref.ensures.value c.requires c.run_of-run.ensures in
    let first = c.in_ok-first.ensures ∙ ap (λ fs. get_or fs c.run_of-run.result c.in_ok-first.first) c.as_slice.ensures in
    let mark : c.index-2.result.now ≡ get_or c.self.inside.marks.items c.args.i 0 = start_is _ _ _ it.inside c.index-2.ensures in
    let value : c.in-Some.value ≡ c.index-2.result.now = search rules in
    stands_behind _ _ _ _ _ _ c.index.result.now c.in-Some.value c.in_ok-first.first d it (start_is _ _ _ it.run c.index.ensures) first
    (value ∙ mark)

pub typed_at-requires-clause-fits : goal.typed_at-requires-clause-fits
typed_at-requires-clause-fits c =
    let holds = shown _ _ _ c.args.self.now c.self.invariant c.self.view_is in
    fits_behind c.args.self.now c.args.i (c.args.i - c.index.result.now) c.in-Some.value c.in_ok-first.first c.in_ok-first.first c.requires holds.fits
    (is_typed c c.in_ok-first.first)

pub unreachable-requires : goal.unreachable-requires
unreachable-requires c =
    let holds = shown _ _ _ c.args.self.now c.self.invariant c.self.view_is in
    let it = found_in _ _ _ _ _ _ _ holds c.deref.ensures.value c.requires c.run_of-run.ensures in
    let first = c.in_ok-first.ensures ∙ ap (λ fs. get_or fs c.run_of-run.result c.in_ok-first.first) c.as_slice.ensures in
    let mark : c.index-2.result.now ≡ get_or c.self.inside.marks.items c.args.i 0 = start_is _ _ _ it.inside c.index-2.ensures in
    let start = start_is _ _ _ it.run c.index.ensures in
    let begun = it.begun in
    let other : c.index.result.now ≢ c.args.i = c.if-start-i.false in
    let typed =
    stands_behind _ _ _ _ _ _ c.index.result.now c.index-2.result.now c.in_ok-first.first c.in_ok-first.first it start first mark in
    let scalar : IsScalar c.index-2.result.now =
    scalar_behind c.in_ok-first.first (c.args.i - c.index.result.now) c.index-2.result.now (omega arith)
    (fits_behind c.args.self.now c.args.i (c.args.i - c.index.result.now) c.index-2.result.now c.in_ok-first.first c.in_ok-first.first c.requires holds.fits
    typed) in
    absurd (search rules)

pub returns : goal.returns
returns c =
    let holds = shown _ _ _ c.args.self.now c.self.invariant c.self.view_is in
    let it = found_in _ _ _ _ _ _ _ holds c.deref.ensures.value c.requires c.run_of-run.ensures in
    let first = c.in_ok-first.ensures ∙ ap (λ fs. get_or fs c.run_of-run.result c.in_ok-first.first) c.as_slice.ensures in
    let mark : c.index-2.result.now ≡ get_or c.self.inside.marks.items c.args.i 0 = start_is _ _ _ it.inside c.index-2.ensures in
    let value : c.in-Some.value ≡ c.index-2.result.now = search rules in
    c.in_ok-op-in-Some.ensures
    ∙ sym (stands_behind _ _ _ _ _ _ c.index.result.now c.in-Some.value c.in_ok-first.first c.in_ok-op-in-Some.op it
    (start_is _ _ _ it.run c.index.ensures) first (value ∙ mark))
