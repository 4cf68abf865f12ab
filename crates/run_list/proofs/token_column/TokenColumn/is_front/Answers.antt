use Rattle.std.proofs.Common.{length, take, ap, sym, ◌∙◌, arith, rules}
use Rattle.std.proofs.lemmas.List.{length-take}
use Rattle.op_list.proofs.Told.{told}
use Rattle.run_list.proofs.Reading.{below_within}
use Rattle.run_list.specs.Column.{change_starts, changes_behind}
use Rattle.run_list.proofs.Column.{shows, rising, front_of, same_column, as_long}
use Rattle.run_list.proofs.token_column.TokenColumn.is_front.Goals as goal

pub count_below-count-requires : goal.count_below-count-requires
count_below-count-requires c = rising _ _ _ _ _ (shows _ _ _ c.args.other.now c.other.invariant c.other.view_is) c.deref.ensures.value

pub slice_bounds-eq-end : goal.slice_bounds-eq-end
slice_bounds-eq-end c =
    omega (
      arith,
      c.count_below-count.ensures,
      below_within c.args.n c.deref.result.now,
      ap length c.deref.ensures.value,
      ap length c.deref-2.ensures.value,
      length-take c.count_below-count.result c.deref-2.result.now,
    )

pub slice_bounds-eq-end-then-eq : goal.slice_bounds-eq-end-then-eq
slice_bounds-eq-end-then-eq c =
    let holds = shows _ _ _ c.args.other.now c.other.invariant c.other.view_is in
    omega (
      arith,
      c.count_below-count.ensures,
      below_within c.args.n c.deref.result.now,
      ap length c.deref.ensures.value,
      ap length c.deref-then-eq.ensures.value,
      as_long _ _ _ _ holds,
      length-take c.count_below-count.result c.deref-then-eq.result.now,
    )

pub returns-then-eq : goal.returns-then-eq
returns-then-eq c =
    let held = shows _ _ _ c.args.self.now c.self.invariant c.self.view_is in
    let holds = shows _ _ _ c.args.other.now c.other.invariant c.other.view_is in
    let count = c.count_below-count.result in
    let front = front_of _ _ _ c.args.other.now _ c.args.n count holds c.requires c.deref.ensures.value c.count_below-count.ensures in
    let says = told c.eq.result c.as_slice.result.now (take count c.deref-2.result.now) c.eq.ensures in
    let tells = told c.eq-then-eq.result c.as_slice-then-eq.result.now (take count c.deref-then-eq.result.now) c.eq-then-eq.ensures in
    let starts = sym c.as_slice.ensures.value ∙ says.0 (search rules) ∙ ap (take count) c.deref-2.ensures.value in (
      λ equal. same_column _ _ _ _ _ _ _ _ held front starts (sym c.as_slice-then-eq.ensures.value ∙ tells.0 equal ∙ ap (take count) c.deref-then-eq.ensures.value) (search rules),
      λ same.
          tells.1
          (c.as_slice-then-eq.ensures.value ∙ held.changes_so ∙ ap (changes_behind 0) same ∙ sym front.changes_so
          ∙ sym (ap (take count) c.deref-then-eq.ensures.value)),
    )

pub returns-else-eq : goal.returns-else-eq
returns-else-eq c =
    let held = shows _ _ _ c.args.self.now c.self.invariant c.self.view_is in
    let holds = shows _ _ _ c.args.other.now c.other.invariant c.other.view_is in
    let count = c.count_below-count.result in
    let front = front_of _ _ _ c.args.other.now _ c.args.n count holds c.requires c.deref.ensures.value c.count_below-count.ensures in
    let says = told c.eq.result c.as_slice.result.now (take count c.deref-2.result.now) c.eq.ensures in (
      λ equal. absurd (search rules),
      λ same.
          says.1
          (c.as_slice.ensures.value ∙ held.starts_so ∙ ap (change_starts 0 0) same ∙ sym front.starts_so
          ∙ sym (ap (take count) c.deref-2.ensures.value)),
    )
