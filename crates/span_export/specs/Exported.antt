-- What a document is exported as.
use Rattle.std.specs.Prelude.{ℕ, List, Bool, Option, Some, None, codes, bytes_eq, if◌then◌else◌}
use Rattle.op_model.specs.declared.span.Span.{Span}
use Rattle.span_export.specs.declared.exporting.Form.{Form}
use Rattle.span_export.specs.declared.exporting.Form.TheVariants.{Text, Markdown, Html, MarkdownBreaks, HtmlBreaks}
use Rattle.span_export.specs.Html.{html_page}
use Rattle.span_export.specs.HtmlParagraphs.{html_paragraphs}
use Rattle.span_export.specs.Markdown.{markdown_page}
use Rattle.span_export.specs.MarkdownParagraphs.{markdown_paragraphs}
use Rattle.span_export.specs.Reading.{text_of}

-- spans in this form
abbrev pub exported : Form → List Span → List ℕ
exported Text spans = text_of spans
exported Markdown spans = markdown_paragraphs spans
exported Html spans = html_paragraphs spans
exported MarkdownBreaks spans = markdown_page spans
exported HtmlBreaks spans = html_page spans

-- the form of this name, with breaks of the line in place of paragraphs or not
abbrev pub form_named : List ℕ → Bool → Option Form
form_named name breaks =
    if bytes_eq name (codes "text") then Some Text
    else if bytes_eq name (codes "markdown") then Some (if breaks then MarkdownBreaks else Markdown)
    else if bytes_eq name (codes "html") then Some (if breaks then HtmlBreaks else Html)
    else None
