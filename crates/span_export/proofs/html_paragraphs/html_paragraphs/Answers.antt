use Rattle.std.proofs.Common.{◌∙◌, ◌++◌, ap}
use Rattle.span_export.specs.Reading.{text, read_html}
use Rattle.span_export.specs.HtmlParagraphs.{html_paragraphs}
use Rattle.span_export.proofs.HtmlParagraphLemmas.{paragraphs_text}
use Rattle.span_export.proofs.html_paragraphs.html_paragraphs.Goals as goal

pub returns-clause-shows : goal.returns-clause-shows
returns-clause-shows c =
    let page = html_paragraphs c.args.spans.now in
    ap (read_html text) (c.in_ok-put_page.ensures ∙ ap (λ l. l ++ page) c.new-out.ensures.items) ∙ paragraphs_text c.args.spans.now
