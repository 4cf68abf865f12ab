-- A document's spans as a page of HTML with paragraphs.
use Rattle.std.specs.Prelude.{ℕ, List, ◌++◌, codes, flat_map, if◌then◌else◌}
use Rattle.op_model.specs.declared.span.Span.{Span}
use Rattle.span_export.specs.Html.{html_span, page_head, page_foot}
use Rattle.span_export.specs.Paragraphs.{is_break, parted}

-- what stands between two paragraphs
abbrev pub paragraph_break : List ℕ
paragraph_break = codes "\n</p><p>"

-- a span of a paragraph, or what stands between two
abbrev pub html_part : Span → List ℕ
html_part s = if is_break s.text then paragraph_break else html_span s

-- a page that shows spans in paragraphs
abbrev pub html_paragraphs : List Span → List ℕ
html_paragraphs spans =
    page_head ++ (codes "<p>" ++ (flat_map html_part (parted spans) ++ (codes "</p>" ++ page_foot)))
