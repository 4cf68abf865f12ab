use Rattle.std.proofs.Common.{◌∙◌}
use Rattle.group_commit.proofs.PagingLemmas.{index_data}
use Rattle.group_commit.proofs.plan.live_data_pages.Goals as goal

pub returns : goal.returns
returns c = λ stream long.
    let has_data = c.data_pages-named.ensures stream long in
    rw (c.live.ensures.data_pages ∙ index_data c.args.current.now c.args.pages.now c.data_pages-named.result.now.items c.requires has_data.reaches) has_data
