use Rattle.std.proofs.Common.{◌∙◌, ◌++◌, ap}
use Rattle.span_export.specs.Reading.{text, read_html}
use Rattle.span_export.specs.Html.{html_page}
use Rattle.span_export.proofs.ReadLemmas.{page_text}
use Rattle.span_export.proofs.html_page.html.Goals as goal

pub returns-clause-shows : goal.returns-clause-shows
returns-clause-shows c =
    let page = html_page c.args.spans.now in
    ap (read_html text) (c.in_ok-put_page.ensures ∙ ap (λ l. l ++ page) c.new-out.ensures.items) ∙ page_text c.args.spans.now
