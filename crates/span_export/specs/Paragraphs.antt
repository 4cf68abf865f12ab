-- A document's spans in paragraphs: a line feed of the text stands between two of them.
use Rattle.std.specs.Prelude.{ℕ, List, [], ◌∷◌, ◌++◌, ◌==◌, Bool, false, None, flat_map, encode_utf8_all, if◌then◌else◌}
use Rattle.op_model.specs.declared.mark.Marks.{Marks}
use Rattle.op_model.specs.declared.span.Span.{Span}

-- a line feed alone
abbrev pub is_break : List ℕ → Bool
is_break (c ∷ []) = c == 10
is_break _ = false

-- characters with these marks
abbrev pub span_of : List ℕ → Marks → Span
span_of characters marks = record { text = characters; marks = marks }

-- the same, if there are some
abbrev pub part : List ℕ → Marks → List Span
part [] marks = []
part (c ∷ cs) marks = span_of (c ∷ cs) marks ∷ []

-- a line feed without marks
abbrev pub line_feed : Span
line_feed = span_of (10 ∷ []) (record { strong = false; em = false; link = None; comments = [] })

-- characters of a paragraph, and then those that follow them: each line feed of these stands alone
abbrev pub parted_from : List ℕ → List ℕ → Marks → List Span
parted_from begun [] marks = part begun marks
parted_from begun (c ∷ cs) marks =
    if c == 10 then part begun marks ++ (line_feed ∷ parted_from [] cs marks)
    else parted_from (begun ++ c ∷ []) cs marks

-- a span, each line feed of which stands alone
abbrev pub parted_span : Span → List Span
parted_span s = parted_from [] s.text s.marks

-- spans, each line feed of which stands alone and without marks; no span is empty
abbrev pub parted : List Span → List Span
parted spans = flat_map parted_span spans

-- a line feed twice, and any other character once
abbrev pub twice_if_break : ℕ → List ℕ
twice_if_break c = if c == 10 then 10 ∷ 10 ∷ [] else c ∷ []

-- the characters of spans with an empty line in place of each line feed, as UTF-8
abbrev pub spaced_text_of : List Span → List ℕ
spaced_text_of spans = flat_map (λ s. encode_utf8_all (flat_map twice_if_break s.text)) spans
