use Rattle.std.proofs.Common.{ap, ◌∙◌}
use Rattle.run_list.specs.Reading.{below}
use Rattle.run_list.proofs.Column.{shows, before, rising}
use Rattle.run_list.proofs.token_column.TokenColumn.changes_before.Goals as goal

pub count_below-requires : goal.count_below-requires
count_below-requires c = rising _ _ _ _ _ (shows _ _ _ c.args.self.now c.self.invariant c.self.view_is) c.deref.ensures.value

pub returns : goal.returns
returns c =
    let holds = shows _ _ _ c.args.self.now c.self.invariant c.self.view_is in
    c.count_below.ensures ∙ ap (below c.args.i) c.deref.ensures.value ∙ before _ _ _ _ c.args.i holds
