use Rattle.std.proofs.Common.{length, take, ap, sym, ◌∙◌, arith, rules}
use Rattle.std.specs.Prelude.{None}
use Rattle.op_list.proofs.Told.{told}
use Rattle.run_list.specs.Runs.{marks_behind, firsts_behind}
use Rattle.run_list.proofs.Found.{rising}
use Rattle.run_list.proofs.Holding.{front_held, same_held, few_firsts, marks_long}
use Rattle.run_list.proofs.Reading.{below_within}
use Rattle.run_list.proofs.Unrolling.{shown}
use Rattle.run_list.proofs.bare_list.BareList.equals.Goals as goal

pub count_below-count-requires : goal.count_below-count-requires
count_below-count-requires c =
    let holds = shown _ _ _ c.list-list.result.now c.list.invariant c.list.view_is in
    rising _ _ _ _ _ holds c.deref.ensures.value

pub slice_bounds-eq-end : goal.slice_bounds-eq-end
slice_bounds-eq-end c =
    let holds = shown _ _ _ c.list-list.result.now c.list.invariant c.list.view_is in
    let front = front_held _ _ _ _ _ c.len-n.result c.count_below-count.result c.args.ops.now holds c.deref.ensures.value c.len-n.ensures
    c.count_below-count.ensures c.list-list.ensures.front in
    c.len-n.ensures ∙ sym (marks_long _ _ _ _ front) ∙ ap (λ ms. length (take c.len-n.result ms)) (sym c.deref-2.ensures.value)

pub front-requires : goal.front-requires
front-requires c =
    let holds = shown _ _ _ c.list-list.result.now c.list.invariant c.list.view_is in
    let most = below_within c.len-n.result c.deref.result.now in
    let long = few_firsts _ _ _ _ holds in
    omega (arith, ap length c.as_slice-then-eq-2.ensures, ap length c.deref.ensures.value)

pub returns-then-eq : goal.returns-then-eq
returns-then-eq c =
    let held = shown _ _ _ c.args.self.now c.self.invariant c.self.view_is in
    let holds = shown _ _ _ c.list-list.result.now c.list.invariant c.list.view_is in
    let front = front_held _ _ _ _ _ c.len-n.result c.count_below-count.result c.args.ops.now holds c.deref.ensures.value c.len-n.ensures
    c.count_below-count.ensures c.list-list.ensures.front in
    let says = told c.eq.result c.as_slice.result.now (take c.len-n.result c.deref-2.result.now) c.eq.ensures in
    let marks = sym c.as_slice.ensures.value ∙ says.0 (search rules) ∙ ap (take c.len-n.result) c.deref-2.ensures.value in
    let firsts = c.front.ensures ∙ ap (take c.count_below-count.result) c.as_slice-then-eq-2.ensures in (
      λ equal. same_held _ _ _ _ _ _ _ _ held front marks (sym c.as_slice-then-eq.ensures ∙ c.is_same.ensures.0 equal ∙ firsts),
      λ same.
          c.is_same.ensures.1
          (c.as_slice-then-eq.ensures ∙ held.firsts_so ∙ ap (firsts_behind None) same ∙ sym front.firsts_so ∙ sym firsts),
    )

pub returns-else-eq : goal.returns-else-eq
returns-else-eq c =
    let held = shown _ _ _ c.args.self.now c.self.invariant c.self.view_is in
    let holds = shown _ _ _ c.list-list.result.now c.list.invariant c.list.view_is in
    let front = front_held _ _ _ _ _ c.len-n.result c.count_below-count.result c.args.ops.now holds c.deref.ensures.value c.len-n.ensures
    c.count_below-count.ensures c.list-list.ensures.front in
    let says = told c.eq.result c.as_slice.result.now (take c.len-n.result c.deref-2.result.now) c.eq.ensures in (
      λ equal. absurd (search rules),
      λ same.
          says.1
          (c.as_slice.ensures.value ∙ held.marks_so ∙ ap (marks_behind None) same ∙ sym front.marks_so
          ∙ sym (ap (take c.len-n.result) c.deref-2.ensures.value)),
    )
