use Rattle.std.proofs.Common.{◌++◌, flat_map, codes}
use Rattle.span_export.specs.Html.{page_head, page_foot}
use Rattle.span_export.specs.HtmlParagraphs.{html_part}
use Rattle.span_export.specs.Paragraphs.{parted}
use Rattle.span_export.proofs.PutLemmas.{then_puts}
use Rattle.span_export.proofs.html_paragraphs.put_page.Goals as goal

pub returns : goal.returns
returns c =
    let shown = flat_map html_part (parted c.args.spans.now) in
    let last = codes "</p>" ++ page_foot in
    then_puts _ _ _ _ page_head (codes "<p>" ++ (shown ++ last)) c.in_ok-put_head.ensures
    (then_puts _ _ _ _ (codes "<p>") (shown ++ last) c.in_ok-put.ensures
    (then_puts _ _ _ _ shown last c.in_ok-put_parted.ensures (then_puts _ _ _ _ (codes "</p>") page_foot c.in_ok-put-2.ensures c.put_foot.ensures)))
