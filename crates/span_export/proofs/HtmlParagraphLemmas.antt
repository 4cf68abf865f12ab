-- Paragraphs that are put, one after the other.
use Rattle.std.proofs.Common.{◌≡◌, ℕ, ◌+◌, ◌<◌, false, List, [], ◌∷◌, ◌++◌, length, take, drop, get_or, flat_map, append_assoc}
use Rattle.std.proofs.Common.{append-nil, codes, refl, ap, sym, ◌∙◌, Result, Ok, Err, OnOk}
use Rattle.std.proofs.Common.{encode_utf8_all, inl, inr}
use Rattle.std.proofs.lemmas.Bool.{cases_Bool}
use Rattle.std.proofs.lemmas.List.{take_more}
use Rattle.std.proofs.lemmas.List.Concat.{flat_map-append}
use Rattle.op_model.specs.declared.mark.Marks.{Marks}
use Rattle.op_model.specs.declared.span.Span.{Span}
use Rattle.span_export.specs.Html.{html_span}
use Rattle.span_export.specs.HtmlParagraphs.{paragraph_break, html_part, html_paragraphs}
use Rattle.span_export.specs.Paragraphs.{is_break, part, line_feed, parted_from, parted_span, parted}
use Rattle.span_export.specs.Reading.{text, read_html, text_of}
use Rattle.span_export.proofs.ReadLemmas.{Gives, each, span_text}
use Rattle.span_export.proofs.ParagraphTextLemmas.{broken, text_parted}
use Rattle.span_export.proofs.ParagraphLemmas.{between, parted_at_break, parted_at_end}

-- characters that are no line feed alone are a span
plain_part : (cs : List ℕ) (m : Marks) → is_break cs ≡ false → flat_map html_part (part cs m) ≡ flat_map html_span (part cs m)
plain_part [] m e = refl
plain_part (c ∷ cs) m e = rw e refl

-- what is still to be put, at a line feed
pub put_at_break : (start i : ℕ) (xs : List ℕ) (m : Marks) (old one two : List ℕ) → i < length xs → get_or xs i 0 ≡ 10
    → is_break (between start i xs) ≡ false → one ≡ old ++ flat_map html_span (part (between start i xs) m) → two ≡ one ++ paragraph_break
    → two ++ flat_map html_part (parted_from (between (i + 1) (i + 1) xs) (drop (i + 1) xs) m)
    ≡ old ++ flat_map html_part (parted_from (between start i xs) (drop i xs) m)
put_at_break start i xs m old one two within is e p q =
    let later = parted_from (between (i + 1) (i + 1) xs) (drop (i + 1) xs) m in
    let begun = part (between start i xs) m in
    let shown = flat_map html_part later in
    let first : one ≡ old ++ flat_map html_part begun = p ∙ ap (λ l. old ++ l) (sym (plain_part (between start i xs) m e)) in
    rw (parted_at_break start i xs m within is, flat_map-append html_part begun (line_feed ∷ later))
    (ap (λ l. l ++ shown) (q ∙ ap (λ l. l ++ paragraph_break) first)
    ∙ append_assoc (old ++ flat_map html_part begun) paragraph_break shown ∙ append_assoc old (flat_map html_part begun) (paragraph_break ++ shown))

-- at the end
pub put_at_end : {T E : Type 0} (r : Result T E) (start i : ℕ) (xs : List ℕ) (m : Marks) (old new all : List ℕ) → i ≡ length xs
    → is_break (between start i xs) ≡ false → old ++ flat_map html_part (parted_from (between start i xs) (drop i xs) m) ≡ all
    → OnOk r (new ≡ old ++ flat_map html_span (part (between start (length xs) xs) m)) → OnOk r (new ≡ all)
put_at_end (Ok x) start i xs m old new all past e so is =
    is ∙ ap (λ n. old ++ flat_map html_span (part (between start n xs) m)) (sym past)
    ∙ ap (λ l. old ++ l) (sym (plain_part (between start i xs) m e)) ∙ sym (ap (λ l. old ++ flat_map html_part l) (parted_at_end start i xs m past)) ∙ so
put_at_end (Err x) start i xs m old new all past e so is = tt

-- what is put for the spans so far, and for one more
pub put_more_spans : (old mid new : List ℕ) (xs : List Span) (i : ℕ) (x : Span) → i < length xs → x ≡ get_or xs i x
    → mid ≡ old ++ flat_map html_part (parted (take i xs)) → new ≡ mid ++ flat_map html_part (parted_span x)
    → new ≡ old ++ flat_map html_part (parted (take (i + 1) xs))
put_more_spans old mid new xs i x within is p q =
    let before = parted (take i xs) in
    rw (take_more xs i x within, ← is, flat_map-append parted_span (take i xs) (x ∷ []), append-nil (parted_span x), flat_map-append html_part before (parted_span x))
    (q ∙ ap (λ l. l ++ flat_map html_part (parted_span x)) p ∙ append_assoc old (flat_map html_part before) (flat_map html_part (parted_span x)))

-- a part gives its text: a break between two paragraphs is the line feed
part_text : (s : Span) → Gives text (html_part s) (encode_utf8_all s.text)
unfolding lib.Utf8.encode
part_text s rest =
    elim (cases_Bool (is_break s.text)) [ inl is ↦ rw (is, broken s.text is) refl | inr is ↦ rw is (span_text s rest) ]

-- a page gives the text of its spans, and a line feed
pub paragraphs_text : (spans : List Span) → read_html text (html_paragraphs spans) ≡ text_of spans ++ codes "\n"
paragraphs_text spans =
    each text html_part (λ s. encode_utf8_all s.text) part_text (parted spans) (codes "</p></div>\n") ∙ ap (λ l. l ++ codes "\n") (text_parted spans)
