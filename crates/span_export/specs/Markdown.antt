-- A document's spans as Markdown.
use Rattle.std.specs.Prelude.{ℕ, ◌+◌, ◌==◌, nat_lt, List, [], ◌∷◌, ◌++◌, length, take, drop, slice_index}
use Rattle.std.specs.Prelude.{Bool, true, false, not, ◌&&◌, ◌||◌, Option, Some, None, codes, flat_map, if◌then◌else◌}
use Rattle.std.specs.Char.{is_whitespace}
use Rattle.std.specs.Char.Unicode.Alphabetic.{is_alphabetic}
use Rattle.std.specs.Char.Unicode.Numeric.{is_numeric}
use Rattle.op_model.specs.declared.span.Span.{Span}
use Rattle.span_export.specs.declared.before.Before.{Before}
use Rattle.span_export.specs.declared.before.Before.TheVariants.{LineStart, Tag, LetterEnd, SignEnd}
use Rattle.span_export.specs.Putting.{if_wanted}
use Rattle.span_export.specs.Draft.{Written, wrote, is_end, is_text, is_loose}
use Rattle.span_export.specs.MarkdownText.{separator, add_characters}
use Rattle.span_export.specs.Html.{open_comment, close_comment}
use Rattle.span_export.specs.WebAddress.{is_tame}

-- a letter or a digit, which is neither a sign nor white space by any table of characters: none among the symbols
abbrev pub is_letter : ℕ → Bool
is_letter c = (is_alphabetic c || is_numeric c) && (nat_lt c 0x2000 || not (nat_lt c 0x3000) && nat_lt c 0x1_F000)

-- how many characters stand up to the last that is no white space
abbrev pub end_of : List ℕ → ℕ
end_of [] = 0
end_of (c ∷ cs) = if end_of cs == 0 && is_whitespace c then 0 else end_of cs + 1

-- how many characters of white space stand in front
abbrev pub start_of : List ℕ → ℕ
start_of [] = 0
start_of (c ∷ cs) = if is_whitespace c then start_of cs + 1 else 0

-- the stars around text that is strong, emphasised, or both
abbrev pub stars : Bool → Bool → List ℕ
stars strong em = if_wanted strong (codes "**") ++ if_wanted em (codes "*")

-- whether stars before this character have to be kept apart from what stands there: else they would begin no emphasis
abbrev pub is_apart : Before → ℕ → Bool
is_apart before first = is_end before || is_text before && not (is_letter first)

-- stars that begin emphasis
abbrev pub add_open : List ℕ → ℕ → Written → Written
add_open marks first w = wrote (if_wanted (is_apart w.before first) separator ++ marks) Tag w

-- stars that end emphasis
abbrev pub add_close : List ℕ → ℕ → Written → Written
add_close marks last w = wrote marks (if is_letter last then LetterEnd else SignEnd) w

-- text between stars, with no white space at its ends; none where there is no text
abbrev pub add_core : List ℕ → List ℕ → Written → Written
add_core marks [] w = w
add_core marks (c ∷ cs) w =
    add_close marks (slice_index (c ∷ cs) (length cs)) (add_characters (c ∷ cs) (add_open marks c w))

-- text up to its last character that is no white space: its white space in front, and then the rest between stars
abbrev pub add_body : List ℕ → List ℕ → Written → Written
add_body marks body w =
    add_core marks (drop (start_of body) body) (add_characters (take (start_of body) body) w)

-- text between stars, outside of which stands the white space at its ends
abbrev pub add_starred : List ℕ → List ℕ → Written → Written
add_starred marks text w =
    add_characters (drop (end_of text) text) (add_body marks (take (end_of text) text) w)

-- a span's text, between stars where it is strong or emphasised
abbrev pub add_text : Span → Written → Written
add_text s w =
    if s.marks.strong || s.marks.em then add_starred (stars s.marks.strong s.marks.em) s.text w
    else add_characters s.text w

-- bytes of tags and brackets written, where there are some
abbrev pub add_tags : List ℕ → Written → Written
add_tags [] w = w
add_tags (byte ∷ bytes) w = wrote (byte ∷ bytes) Tag w

-- a byte of an address as it stands between < and >
abbrev pub address_byte : ℕ → List ℕ
address_byte byte =
    if byte == 0 then codes "&#0;"
    else if byte == 10 then codes "&#10;"
    else if byte == 13 then codes "&#13;"
    else if byte == 92 || (byte == 60 || (byte == 62 || byte == 38)) then 92 ∷ byte ∷ []
    else byte ∷ []

-- the bracket before a link's text, where the link may lead there
abbrev pub open_bracket : Option (List ℕ) → List ℕ
open_bracket None = []
open_bracket (Some address) = if is_tame address then codes "[" else []

-- the bracket after it, and where the link leads
abbrev pub close_bracket : Option (List ℕ) → List ℕ
close_bracket None = []
close_bracket (Some address) =
    if is_tame address then codes "](<" ++ (flat_map address_byte address ++ codes ">)") else []

-- a span written: its text within its comments and its link
abbrev pub add_span : Span → Written → Written
add_span s w =
    add_tags (close_bracket s.marks.link ++ flat_map close_comment s.marks.comments)
    (add_text s (add_tags (flat_map open_comment s.marks.comments ++ open_bracket s.marks.link) w))

-- spans written, one after the other
abbrev pub add_spans : List Span → Written → Written
add_spans [] w = w
add_spans (s ∷ ss) w = add_spans ss (add_span s w)

-- nothing written yet
abbrev pub blank : Written
blank = record { bytes = []; before = LineStart }

-- whether bytes are there
abbrev pub is_some_text : List ℕ → Bool
is_some_text [] = false
is_some_text (byte ∷ bytes) = true

-- the end of the text: white space there is kept from being lost, and a line feed ends the last line
abbrev pub finished : Written → List ℕ
finished w = w.bytes ++ (if_wanted (is_loose w.before && is_some_text w.bytes) separator ++ codes "\n")

-- spans as Markdown
abbrev pub markdown_page : List Span → List ℕ
markdown_page spans = finished (add_spans spans blank)
