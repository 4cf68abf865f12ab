use Rattle.std.proofs.Common.{ap, ◌∙◌}
use Rattle.page_file.specs.Gaps.{in_gaps}
use Rattle.page_file.specs.Index.{is_free}
use Rattle.page_file.proofs.pages.Pages.is_free.Goals as goal

pub returns : goal.returns
returns c =
    c.has_page.ensures ∙ ap (in_gaps c.from.result) c.deref.ensures.value ∙ ap (λ n. in_gaps n c.self.inside.gaps.items) c.from.ensures
    ∙ c.self.invariant.0.free c.args.page c.ranges.page.fits ∙ ap (is_free c.args.page) c.self.view_is
