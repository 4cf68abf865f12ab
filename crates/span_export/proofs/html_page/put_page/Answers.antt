use Rattle.std.proofs.Common.{◌++◌, flat_map}
use Rattle.span_export.specs.Html.{page_head, page_foot, html_span}
use Rattle.span_export.proofs.PutLemmas.{then_puts}
use Rattle.span_export.proofs.html_page.put_page.Goals as goal

pub returns : goal.returns
returns c =
    let shown = flat_map html_span c.args.spans.now in
    then_puts _ _ _ _ page_head (shown ++ page_foot) c.in_ok-put_head.ensures
    (then_puts _ _ _ _ shown page_foot c.in_ok-put_spans.ensures c.put_foot.ensures)
