-- Paragraphs that are written, one after the other.
use Rattle.std.proofs.Common.{◌≡◌, ℕ, ◌+◌, ◌<◌, false, List, [], ◌∷◌, ◌++◌, length, take, drop, get_or, append-nil, refl, ap, sym, ◌∙◌, Result, Ok, Err, OnOk}
use Rattle.std.proofs.Common.{codes, flat_map, IfOk, inl, inr}
use Rattle.std.proofs.lemmas.Bool.{cases_Bool}
use Rattle.std.specs.Global.{Vec}
use Rattle.std.proofs.lemmas.List.{take_more}
use Rattle.std.proofs.lemmas.List.Concat.{flat_map-append}
use Rattle.op_model.specs.declared.mark.Marks.{Marks}
use Rattle.op_model.specs.declared.span.Span.{Span}
use Rattle.span_export.specs.declared.before.Before.{Before}
use Rattle.span_export.specs.declared.before.Before.TheVariants.{LineStart}
use Rattle.span_export.specs.Draft.{Written, is_line_start, is_loose}
use Rattle.span_export.specs.Markdown.{add_spans, blank}
use Rattle.span_export.specs.Reading.{plain, read_markdown}
use Rattle.span_export.specs.MarkdownParagraphs.{paragraph_end, add_break, add_part, add_parts, ended, markdown_paragraphs}
use Rattle.span_export.specs.Paragraphs.{is_break, part, line_feed, parted_from, parted_span, parted, spaced_text_of}
use Rattle.span_export.proofs.MarkdownLemmas.{Gives, both, silent_separator, Shows, shows, stays, then_shows, shows_span}
use Rattle.span_export.proofs.ParagraphTextLemmas.{spaced, spaced_parted}
use Rattle.span_export.proofs.ParagraphLemmas.{between, parted_at_break, parted_at_end}

-- parts, and then others
pub add_parts-append : (xs ys : List Span) (w : Written) → add_parts (xs ++ ys) w ≡ add_parts ys (add_parts xs w)
add_parts-append [] ys w = refl
add_parts-append (x ∷ xs) ys w = add_parts-append xs ys (add_part x w)

-- characters that are no line feed alone are a span
plain_part : (cs : List ℕ) (m : Marks) (w : Written) → is_break cs ≡ false → add_parts (part cs m) w ≡ add_spans (part cs m) w
plain_part [] m w e = refl
plain_part (c ∷ cs) m w e = rw e refl

-- what is still to be written, at a line feed
pub written_at_break : (start i : ℕ) (xs : List ℕ) (m : Marks) (old one two : Written) → i < length xs → get_or xs i 0 ≡ 10
    → is_break (between start i xs) ≡ false → one ≡ add_spans (part (between start i xs) m) old → two ≡ add_break one
    → add_parts (parted_from (between (i + 1) (i + 1) xs) (drop (i + 1) xs) m) two ≡ add_parts (parted_from (between start i xs) (drop i xs) m) old
written_at_break start i xs m old one two within is e p q =
    let later = parted_from (between (i + 1) (i + 1) xs) (drop (i + 1) xs) m in
    let begun = part (between start i xs) m in
    rw (parted_at_break start i xs m within is)
    (ap (add_parts later) (q ∙ ap add_break (p ∙ sym (plain_part (between start i xs) m old e)))
    ∙ sym (add_parts-append begun (line_feed ∷ later) old))

-- at the end
pub written_at_end : {T E : Type 0} (r : Result T E) (start i : ℕ) (xs : List ℕ) (m : Marks) (old new : Written) (all : Written) → i ≡ length xs
    → is_break (between start i xs) ≡ false → add_parts (parted_from (between start i xs) (drop i xs) m) old ≡ all
    → OnOk r (new ≡ add_spans (part (between start (length xs) xs) m) old) → OnOk r (new ≡ all)
written_at_end (Ok x) start i xs m old new all past e so is =
    is ∙ ap (λ n. add_spans (part (between start n xs) m) old) (sym past) ∙ sym (plain_part (between start i xs) m old e) ∙ sym (ap (λ l. add_parts l old) (parted_at_end start i xs m past)) ∙ so
written_at_end (Err x) start i xs m old new all past e so is = tt

-- what is written of the spans so far, and of one more
pub written_more : (xs : List Span) (i : ℕ) (x : Span) (old mid new : Written) → i < length xs → x ≡ get_or xs i x
    → mid ≡ add_parts (parted (take i xs)) old → new ≡ add_parts (parted_span x) mid → new ≡ add_parts (parted (take (i + 1) xs)) old
written_more xs i x old mid new within is p q =
    rw (take_more xs i x within, ← is, flat_map-append parted_span (take i xs) (x ∷ []), append-nil (parted_span x), add_parts-append (parted (take i xs)) (parted_span x) old)
    (q ∙ ap (add_parts (parted_span x)) p)

-- the end of a paragraph gives nothing
silent_end : (before : Before) → Gives plain (paragraph_end before) []
silent_end before rest =
    elim (cases_Bool (is_line_start before)) [ inl is ↦ rw is refl | inr is ↦ rw is (silent_separator (is_loose before) rest) ]

-- a break gives an empty line
shows_break : (w : Written) → Shows w (add_break w) (codes "\n\n")
shows_break w =
    shows w (paragraph_end w.before ++ codes "\n\n") LineStart (codes "\n\n")
    (both plain (paragraph_end w.before) (codes "\n\n") [] (codes "\n\n") (silent_end w.before) (λ rest. refl))

-- a part gives its text, or an empty line
shows_part : (s : Span) (w : Written) → Shows w (add_part s w) (spaced s)
shows_part s w = elim (cases_Bool (is_break s.text)) [ inl is ↦ rw is (shows_break w) | inr is ↦ rw is (shows_span s w) ]

shows_parts : (ss : List Span) (w : Written) → Shows w (add_parts ss w) (flat_map spaced ss)
shows_parts [] w = stays w
shows_parts (s ∷ ss) w =
    then_shows w (add_part s w) (add_parts ss (add_part s w)) (spaced s) (flat_map spaced ss) (shows_part s w) (shows_parts ss (add_part s w))

-- a page gives the text of its spans with an empty line in place of each line feed, and a line feed
paragraphs_text : (spans : List Span) → read_markdown plain (markdown_paragraphs spans) ≡ spaced_text_of spans ++ codes "\n"
paragraphs_text spans =
    let w = add_parts (parted spans) blank in
    let all = shows_parts (parted spans) blank in
    let foot = paragraph_end w.before ++ codes "\n" in
    ap (λ l. read_markdown plain (l ++ foot)) all.1.0 ∙ all.1.1 foot
    ∙ ap (λ l. flat_map spaced (parted spans) ++ l) (silent_end w.before (codes "\n")) ∙ ap (λ l. l ++ codes "\n") (spaced_parted spans)

-- the same of a page that was ended
pub ended_text : {E : Type 0} (r : Result (Vec ℕ) E) (spans : List Span) (first last : Written)
    → first ≡ blank → last ≡ add_parts (parted spans) first → IfOk r (λ page. page.items ≡ ended last)
    → IfOk r (λ page. read_markdown plain page.items ≡ spaced_text_of spans ++ codes "\n")
ended_text (Ok page) spans first last p q is =
    ap (read_markdown plain) (is ∙ ap ended (q ∙ ap (add_parts (parted spans)) p)) ∙ paragraphs_text spans
ended_text (Err e) spans first last p q is = tt
