-- A document's spans as a page of HTML.
use Rattle.std.specs.Prelude.{ℕ, List, [], ◌++◌, Option, Some, None, codes, flat_map, encode_utf8_all, if◌then◌else◌}
use Rattle.std.specs.Int.{w128, to_be_bytes}
use Rattle.uuid.specs.Text.{lower, hyphenated_text}
use Rattle.op_model.specs.declared.mark.Marks.{Marks}
use Rattle.op_model.specs.declared.span.Span.{Span}
use Rattle.span_export.specs.Putting.{if_wanted}
use Rattle.span_export.specs.HtmlText.{html_text}
use Rattle.span_export.specs.WebAddress.{is_tame}

-- the name of a comment: a UUID, hyphenated in lower case
abbrev pub comment_name : ℕ → List ℕ
comment_name id = hyphenated_text lower (to_be_bytes w128 id)

-- the tag that begins a comment
abbrev pub open_comment : ℕ → List ℕ
open_comment id = codes "<span data-comment=\"" ++ (html_text (comment_name id) ++ codes "\">")

-- the tag that ends a comment
abbrev pub close_comment : ℕ → List ℕ
close_comment id = codes "</span>"

-- the tag that begins a link, where it may lead there
abbrev pub open_link : Option (List ℕ) → List ℕ
open_link None = []
open_link (Some address) = if is_tame address then codes "<a href=\"" ++ (html_text address ++ codes "\">") else []

-- the tag that ends it
abbrev pub close_link : Option (List ℕ) → List ℕ
close_link None = []
close_link (Some address) = if is_tame address then codes "</a>" else []

-- the tags before a span's text
abbrev pub open_tags : Marks → List ℕ
open_tags m =
    flat_map open_comment m.comments
    ++ (open_link m.link ++ (if_wanted m.strong (codes "<strong>") ++ if_wanted m.em (codes "<em>")))

-- the tags after it
abbrev pub close_tags : Marks → List ℕ
close_tags m =
    if_wanted m.em (codes "</em>")
    ++ (if_wanted m.strong (codes "</strong>") ++ (close_link m.link ++ flat_map close_comment m.comments))

-- a span: its text between the tags of its marks
abbrev pub html_span : Span → List ℕ
html_span s = open_tags s.marks ++ (html_text (encode_utf8_all s.text) ++ close_tags s.marks)

-- what a page begins with: it is UTF-8, and white space is shown as it stands
abbrev pub page_head : List ℕ
page_head = codes "<!doctype html><meta charset=\"utf-8\"><div style=\"white-space: pre-wrap\">"

-- what a page ends with
abbrev pub page_foot : List ℕ
page_foot = codes "</div>\n"

-- a page that shows spans
abbrev pub html_page : List Span → List ℕ
html_page spans = page_head ++ (flat_map html_span spans ++ page_foot)
