use Rattle.std.proofs.Common.{ap, ◌∙◌, suc, add-one}
use Rattle.run_list.specs.Reading.{below}
use Rattle.run_list.proofs.Column.{shows, up_to, rising}
use Rattle.run_list.proofs.token_column.TokenColumn.changes_up_to.Goals as goal

pub count_below-requires : goal.count_below-requires
count_below-requires c = rising _ _ _ _ _ (shows _ _ _ c.args.self.now c.self.invariant c.self.view_is) c.deref.ensures.value

pub returns : goal.returns
returns c =
    let holds = shows _ _ _ c.args.self.now c.self.invariant c.self.view_is in
    (rw add-one at c.count_below.ensures) ∙ ap (below (suc c.args.i)) c.deref.ensures.value ∙ up_to _ _ _ _ c.args.i holds
