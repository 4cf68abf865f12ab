-- A document's spans as Markdown with paragraphs.
use Rattle.std.specs.Prelude.{ℕ, List, [], ◌∷◌, ◌++◌, codes, if◌then◌else◌}
use Rattle.op_model.specs.declared.span.Span.{Span}
use Rattle.span_export.specs.declared.before.Before.{Before}
use Rattle.span_export.specs.declared.before.Before.TheVariants.{LineStart}
use Rattle.span_export.specs.Putting.{if_wanted}
use Rattle.span_export.specs.Draft.{Written, wrote, is_line_start, is_loose}
use Rattle.span_export.specs.MarkdownText.{separator}
use Rattle.span_export.specs.Markdown.{add_span, blank}
use Rattle.span_export.specs.Paragraphs.{is_break, parted}

-- a paragraph with no text in it: a comment, which shows nothing and keeps apart what stands before it and after it
abbrev pub empty_paragraph : List ℕ
empty_paragraph = codes "<!-- -->"

-- what ends a paragraph: an empty one is a comment, and white space is kept from being lost
abbrev pub paragraph_end : Before → List ℕ
paragraph_end before = if is_line_start before then empty_paragraph else if_wanted (is_loose before) separator

-- the end of a paragraph written, and what stands between it and the next
abbrev pub add_break : Written → Written
add_break w = wrote (paragraph_end w.before ++ codes "\n\n") LineStart w

-- a span of a paragraph written, or what stands between two
abbrev pub add_part : Span → Written → Written
add_part s w = if is_break s.text then add_break w else add_span s w

-- these written, one after the other
abbrev pub add_parts : List Span → Written → Written
add_parts [] w = w
add_parts (s ∷ ss) w = add_parts ss (add_part s w)

-- the end of the last paragraph
abbrev pub ended : Written → List ℕ
ended w = w.bytes ++ (paragraph_end w.before ++ codes "\n")

-- spans as Markdown with paragraphs
abbrev pub markdown_paragraphs : List Span → List ℕ
markdown_paragraphs spans = ended (add_parts (parted spans) blank)
