use Rattle.std.proofs.Common.{arith, ap, ◌∙◌}
use Rattle.run_list.specs.Reading.{below}
use Rattle.run_list.proofs.Column.{shows, rising, front_holds, is_column, column_is}
use Rattle.run_list.proofs.token_column.TokenColumn.truncate.Goals as goal

pub count_below-count-requires : goal.count_below-count-requires
count_below-count-requires c = rising _ _ _ _ _ (shows _ _ _ c.args.self.now c.self.invariant c.self.view_is) c.deref.ensures.value

pub invariant_of-self : goal.invariant_of-self
invariant_of-self c =
    let holds = shows _ _ _ c.args.self.now c.self.invariant c.self.view_is in
    is_column _ _ _ _ (front_holds _ _ _ _ c.args.n c.count_below-count.result _ _ holds (omega (arith, holds.len_so, c.if-n-self.true))
    (c.count_below-count.ensures ∙ ap (below c.args.n) c.deref.ensures.value) c.truncate.ensures.items c.truncate-then-n-self.ensures.items)

pub returns-then-n-self : goal.returns-then-n-self
returns-then-n-self c =
    let holds = shows _ _ _ c.args.self.now c.self.invariant c.self.view_is in
    column_is _ _ _ _ (front_holds _ _ _ _ c.args.n c.count_below-count.result _ _ holds (omega (arith, holds.len_so, c.if-n-self.true))
    (c.count_below-count.ensures ∙ ap (below c.args.n) c.deref.ensures.value) c.truncate.ensures.items c.truncate-then-n-self.ensures.items)
