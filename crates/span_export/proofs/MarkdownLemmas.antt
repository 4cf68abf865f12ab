-- What a reader takes from Markdown.
use Rattle.std.proofs.Common.{◌≡◌, ◌≢◌, ℕ, ◌==◌, Bool, true, false, ◌&&◌, ◌||◌, List, [], ◌∷◌, ◌++◌, take, drop, take-append-drop, length, slice_index}
use Rattle.std.proofs.Common.{append_assoc, append-nil, codes, flat_map, encode_utf8_all, Option, Some, None, cond, Result, Ok, Err, IfOk, refl, subst, ap}
use Rattle.std.proofs.Common.{sym, ◌∙◌, arith, inl, inr}
use Rattle.std.proofs.lemmas.Bool.{cases_Bool}
use Rattle.std.proofs.lemmas.Bool.Decides.{Decides-eqb, not_from_Decides, nat_tests}
use Rattle.std.proofs.lemmas.Str.{encodes-append}
use Rattle.std.specs.Global.{Vec}
use Rattle.op_model.specs.declared.span.Span.{Span}
use Rattle.span_export.specs.declared.before.Before.{Before}
use Rattle.span_export.specs.declared.before.Before.TheVariants.{Tag, LetterEnd, SignEnd}
use Rattle.span_export.specs.Putting.{if_wanted}
use Rattle.span_export.specs.HtmlText.{html_byte, html_text}
use Rattle.span_export.specs.WebAddress.{is_tame}
use Rattle.span_export.specs.Html.{comment_name, open_comment, close_comment}
use Rattle.span_export.specs.Draft.{Written, wrote, is_line_start, is_loose}
use Rattle.span_export.specs.MarkdownText.{separator, is_always_marker, is_marker, needs_gap, shown, behind, add_byte, add_bytes, add_characters}
use Rattle.span_export.specs.Markdown.{is_letter, is_apart, end_of, start_of, stars, add_open, add_core, add_body, add_starred, add_text, add_tags}
use Rattle.span_export.specs.Markdown.{address_byte, open_bracket, close_bracket, add_span, add_spans, blank, is_some_text, finished, markdown_page}
use Rattle.span_export.specs.Reading.{Spot, plain, inside_tag, address, read_markdown, text_of}
use Rattle.span_export.proofs.ReadLemmas.{after13, after39, after34, after62, after60, after38, after0}

-- a reader at this spot takes some of what stands first, and is then at the spot again
abbrev pub Gives : Spot → List ℕ → List ℕ → Type 0
Gives spot written taken = (rest : List ℕ) → read_markdown spot (written ++ rest) ≡ taken ++ read_markdown spot rest

-- by a test
by_bool : (spot : Spot) (test : Bool) (one other taken : List ℕ) → (test ≡ true → Gives spot one taken) → (test ≡ false → Gives spot other taken)
    → Gives spot (cond test one other) taken
by_bool spot test one other taken is_one is_other rest =
    elim (cases_Bool test) [ inl is ↦ rw is (is_one is rest) | inr is ↦ rw is (is_other is rest) ]

-- by a test of two numbers
by_test : (spot : Spot) (b k : ℕ) (one other taken : List ℕ) → (b ≡ k → Gives spot one taken) → (b ≢ k → Gives spot other taken)
    → Gives spot (cond (b == k) one other) taken
by_test spot b k one other taken is_one is_other =
    by_bool spot (b == k) one other taken (λ is. is_one ((Decides-eqb b k).0 is)) (λ is. is_other (not_from_Decides (b == k) (Decides-eqb b k) is))

neither_left : (a b : Bool) → (a || b) ≡ false → a ≡ false
neither_left true b e = cc
neither_left false b e = refl

neither_right : (a b : Bool) → (a || b) ≡ false → b ≡ false
neither_right true b e = cc
neither_right false b e = e

both_right : (a b : Bool) → (a && b) ≡ true → b ≡ true
both_right true b e = e
both_right false b e = cc

-- what means something is read as itself after a backslash
escaped_byte : (b : ℕ) → Gives plain (92 ∷ b ∷ []) (b ∷ [])
escaped_byte b rest = refl

-- a byte that means nothing anywhere is read as itself
bare_byte : (b : ℕ) → is_always_marker b ≡ false → Gives plain (b ∷ []) (b ∷ [])
bare_byte b none rest =
    let n92 : b == 92 ≡ false = neither_left (b == 92) _ none in
    let r1 = neither_right (b == 92) _ none in
    let r2 = neither_right (b == 96) _ r1 in
    let n42 : b == 42 ≡ false = neither_left (b == 42) _ r2 in
    let r3 = neither_right (b == 42) _ r2 in
    let r4 = neither_right (b == 95) _ r3 in
    let n91 : b == 91 ≡ false = neither_left (b == 91) _ r4 in
    let r5 = neither_right (b == 91) _ r4 in
    let n93 : b == 93 ≡ false = neither_left (b == 93) _ r5 in
    let r6 = neither_right (b == 93) _ r5 in
    let n60 : b == 60 ≡ false = neither_left (b == 60) _ r6 in
    let r7 = neither_right (b == 60) _ r6 in
    let r8 = neither_right (b == 62) _ r7 in
    let n38 : b == 38 ≡ false = neither_left (b == 38) _ r8 in
    rw (n92, n60, n38, n93, n42, n91) refl

-- how a byte stands in text, if it is none of those before
abbrev last_shown : Before → ℕ → List ℕ
last_shown before b = cond (is_marker before b) (92 ∷ b ∷ []) (b ∷ [])

abbrev shown13 : Before → ℕ → List ℕ
shown13 before b = cond (is_line_start before && b == 32) (codes "&#32;") (last_shown before b)

abbrev shown12 : Before → ℕ → List ℕ
shown12 before b = cond (b == 13) (codes "&#13;") (shown13 before b)

abbrev shown11 : Before → ℕ → List ℕ
shown11 before b = cond (b == 12) (codes "&#12;") (shown12 before b)

abbrev shown10 : Before → ℕ → List ℕ
shown10 before b = cond (b == 11) (codes "&#11;") (shown11 before b)

abbrev shown9 : Before → ℕ → List ℕ
shown9 before b = cond (b == 10) (codes "\\\n") (shown10 before b)

abbrev shown0 : Before → ℕ → List ℕ
shown0 before b = cond (b == 9) (codes "&#9;") (shown9 before b)

-- a byte as it stands in text is read as that byte
byte_in_text : (before : Before) (b : ℕ) → Gives plain (shown before b) (b ∷ [])
byte_in_text before b =
    by_test plain b 0 (codes "&#0;") (shown0 before b) (b ∷ []) (λ e rest. rw e refl) (λ n0.
    by_test plain b 9 (codes "&#9;") (shown9 before b) (b ∷ []) (λ e rest. rw e refl) (λ n9.
    by_test plain b 10 (codes "\\\n") (shown10 before b) (b ∷ []) (λ e rest. rw e refl) (λ n10.
    by_test plain b 11 (codes "&#11;") (shown11 before b) (b ∷ []) (λ e rest. rw e refl) (λ n11.
    by_test plain b 12 (codes "&#12;") (shown12 before b) (b ∷ []) (λ e rest. rw e refl) (λ n12.
    by_test plain b 13 (codes "&#13;") (shown13 before b) (b ∷ []) (λ e rest. rw e refl) (λ n13.
    by_bool plain (is_line_start before && b == 32) (codes "&#32;") (last_shown before b) (b ∷ [])
    (λ is rest. let e : b ≡ 32 = (Decides-eqb b 32).0 (both_right (is_line_start before) (b == 32) is) in rw e refl) (λ other.
    by_bool plain (is_marker before b) (92 ∷ b ∷ []) (b ∷ []) (b ∷ []) (λ is. escaped_byte b)
    (λ is. bare_byte b (neither_left (is_always_marker b) _ is)))))))))

-- a byte as it stands in quotes of a tag doesn't end it
byte_in_tag : (b : ℕ) → Gives inside_tag (html_byte b) []
byte_in_tag b =
    by_test inside_tag b 38 (codes "&amp;") (after38 b) [] (λ e rest. refl) (λ n38.
    by_test inside_tag b 60 (codes "&lt;") (after60 b) [] (λ e rest. refl) (λ n60.
    by_test inside_tag b 62 (codes "&gt;") (after62 b) [] (λ e rest. refl) (λ n62.
    by_test inside_tag b 34 (codes "&quot;") (after34 b) [] (λ e rest. refl) (λ n34.
    by_test inside_tag b 39 (codes "&#39;") (after39 b) [] (λ e rest. refl) (λ n39.
    by_test inside_tag b 13 (codes "&#13;") (after13 b) [] (λ e rest. refl) (λ n13.
    by_test inside_tag b 0 (codes "&#0;") (after0 b) [] (λ e rest. refl) (λ n0 rest.
    let goes_on : b == 62 ≡ false = grind (arith, nat_tests) in
    rw goes_on refl)))))))

-- how a byte of an address stands, if it is none of those before
abbrev address13 : ℕ → List ℕ
address13 b = cond (b == 92 || (b == 60 || (b == 62 || b == 38))) (92 ∷ b ∷ []) (b ∷ [])

abbrev address10 : ℕ → List ℕ
address10 b = cond (b == 13) (codes "&#13;") (address13 b)

abbrev address0 : ℕ → List ℕ
address0 b = cond (b == 10) (codes "&#10;") (address10 b)

-- a byte of an address doesn't end it
byte_in_address : (b : ℕ) → Gives address (address_byte b) []
byte_in_address b =
    by_test address b 0 (codes "&#0;") (address0 b) [] (λ e rest. refl) (λ n0.
    by_test address b 10 (codes "&#10;") (address10 b) [] (λ e rest. refl) (λ n10.
    by_test address b 13 (codes "&#13;") (address13 b) [] (λ e rest. refl) (λ n13.
    by_bool address (b == 92 || (b == 60 || (b == 62 || b == 38))) (92 ∷ b ∷ []) (b ∷ []) [] (λ is rest. refl) (λ is rest.
    let n92 : b == 92 ≡ false = neither_left (b == 92) _ is in
    let r1 = neither_right (b == 92) _ is in
    let r2 = neither_right (b == 60) _ r1 in
    let n62 : b == 62 ≡ false = neither_left (b == 62) _ r2 in
    rw (n92, n62) refl))))

-- what stands one after the other
pub both : (spot : Spot) (a b x y : List ℕ) → Gives spot a x → Gives spot b y → Gives spot (a ++ b) (x ++ y)
both spot a b x y p q rest =
    rw (append_assoc a b rest, append_assoc x y (read_markdown spot rest)) (p (b ++ rest) ∙ ap (λ l. x ++ l) (q rest))

-- nothing of each element of a list is nothing of all
silent_each : {X : Type 0} (spot : Spot) (f : X → List ℕ) → ((x : X) → Gives spot (f x) []) → (xs : List X) → Gives spot (flat_map f xs) []
silent_each spot f one [] rest = refl
silent_each spot f one (x ∷ xs) rest = both spot (f x) (flat_map f xs) [] [] (one x) (silent_each spot f one xs) rest

silent_if : (wanted : Bool) (bytes : List ℕ) → Gives plain bytes [] → Gives plain (if_wanted wanted bytes) []
silent_if true bytes is rest = is rest
silent_if false bytes is rest = refl

-- the end of a tag with a text in quotes
quotes : (bs rest : List ℕ) → read_markdown inside_tag ((html_text bs ++ codes "\">") ++ rest) ≡ read_markdown plain rest
quotes bs rest = rw (append_assoc (html_text bs) (codes "\">") rest) (silent_each inside_tag html_byte byte_in_tag bs (codes "\">" ++ rest))

silent_open_comments : (ids : List ℕ) → Gives plain (flat_map open_comment ids) []
silent_open_comments ids = silent_each plain open_comment (λ id rest. quotes (comment_name id) rest) ids

silent_close_comments : (ids : List ℕ) → Gives plain (flat_map close_comment ids) []
silent_close_comments ids = silent_each plain close_comment (λ id rest. refl) ids

silent_open_bracket : (link : Option (List ℕ)) → Gives plain (open_bracket link) []
silent_open_bracket None rest = refl
silent_open_bracket (Some url) rest = silent_if (is_tame url) (codes "[") (λ later. refl) rest

-- the end of a link with its address
brackets : (url rest : List ℕ) → read_markdown address ((flat_map address_byte url ++ codes ">)") ++ rest) ≡ read_markdown plain rest
brackets url rest =
    rw (append_assoc (flat_map address_byte url) (codes ">)") rest) (silent_each address address_byte byte_in_address url (codes ">)" ++ rest))

silent_close_bracket : (link : Option (List ℕ)) → Gives plain (close_bracket link) []
silent_close_bracket None rest = refl
silent_close_bracket (Some url) rest =
    silent_if (is_tame url) (codes "](<" ++ (flat_map address_byte url ++ codes ">)")) (λ later. brackets url later) rest

silent_stars : (strong em : Bool) → Gives plain (stars strong em) []
silent_stars true true rest = refl
silent_stars true false rest = refl
silent_stars false true rest = refl
silent_stars false false rest = refl

pub silent_separator : (wanted : Bool) → Gives plain (if_wanted wanted separator) []
silent_separator wanted = silent_if wanted separator (λ rest. refl)

-- what was written from here to there is read as this text
abbrev pub Shows : Written → Written → List ℕ → Type 0
Shows from to taken = (new : List ℕ) × ((to.bytes ≡ from.bytes ++ new) × Gives plain new taken)

-- bytes that are read as this text
pub shows : (w : Written) (bytes : List ℕ) (before : Before) (taken : List ℕ) → Gives plain bytes taken → Shows w (wrote bytes before w) taken
shows w bytes before taken gives = (bytes, (refl, gives))

-- nothing written
pub stays : (w : Written) → Shows w w []
stays w = ([], (sym (append-nil w.bytes), λ rest. refl))

-- what was written one after the other
pub then_shows : (a b c : Written) (x y : List ℕ) → Shows a b x → Shows b c y → Shows a c (x ++ y)
then_shows a b c x y p q =
    (p.0 ++ q.0, (q.1.0 ∙ ap (λ l. l ++ q.0) p.1.0 ∙ append_assoc a.bytes p.0 q.0, both plain p.0 q.0 x y p.1.1 q.1.1))

-- the text by another name
is_text : (a b : Written) (x y : List ℕ) → x ≡ y → Shows a b x → Shows a b y
is_text a b x y e p = let S : List ℕ → Type 0 = λ t. Shows a b t in subst S e p

shows_byte : (b : ℕ) (w : Written) → Shows w (add_byte b w) (b ∷ [])
shows_byte b w =
    shows w (if_wanted (needs_gap w.before b) separator ++ shown w.before b) (behind w.before b) (b ∷ [])
    (both plain (if_wanted (needs_gap w.before b) separator) (shown w.before b) [] (b ∷ []) (silent_separator (needs_gap w.before b)) (byte_in_text w.before b))

shows_bytes : (bs : List ℕ) (w : Written) → Shows w (add_bytes bs w) bs
shows_bytes [] w = stays w
shows_bytes (b ∷ bs) w = then_shows w (add_byte b w) (add_bytes bs (add_byte b w)) (b ∷ []) bs (shows_byte b w) (shows_bytes bs (add_byte b w))

shows_characters : (cs : List ℕ) (w : Written) → Shows w (add_characters cs w) (encode_utf8_all cs)
shows_characters cs w = shows_bytes (encode_utf8_all cs) w

module _ (strong em : Bool) where
  abbrev marks : List ℕ
  marks = stars strong em

  shows_open : (first : ℕ) (w : Written) → Shows w (add_open marks first w) []
  shows_open first w =
      shows w (if_wanted (is_apart w.before first) separator ++ marks) Tag []
      (both plain (if_wanted (is_apart w.before first) separator) marks [] [] (silent_separator (is_apart w.before first)) (silent_stars strong em))

  shows_core : (core : List ℕ) (w : Written) → Shows w (add_core marks core w) (encode_utf8_all core)
  shows_core [] w = stays w
  shows_core (c ∷ cs) w =
      let opened = add_open marks c w in
      let inside = add_characters (c ∷ cs) opened in
      let text = encode_utf8_all (c ∷ cs) in
      is_text w (add_core marks (c ∷ cs) w) (text ++ []) text (append-nil text)
      (then_shows w inside (add_core marks (c ∷ cs) w) text []
      (then_shows w opened inside [] text (shows_open c w) (shows_characters (c ∷ cs) opened))
      (shows inside marks (cond (is_letter (slice_index (c ∷ cs) (length cs))) LetterEnd SignEnd) [] (silent_stars strong em)))

  -- two parts of a text
  parts : (n : ℕ) (cs : List ℕ) → encode_utf8_all (take n cs) ++ encode_utf8_all (drop n cs) ≡ encode_utf8_all cs
  parts n cs = sym (encodes-append (take n cs) (drop n cs)) ∙ ap encode_utf8_all (take-append-drop n cs)

  shows_body : (body : List ℕ) (w : Written) → Shows w (add_body marks body w) (encode_utf8_all body)
  shows_body body w =
      let n = start_of body in
      let leading = add_characters (take n body) w in
      is_text w (add_body marks body w) _ (encode_utf8_all body) (parts n body)
      (then_shows w leading (add_body marks body w) (encode_utf8_all (take n body)) (encode_utf8_all (drop n body))
      (shows_characters (take n body) w) (shows_core (drop n body) leading))

  shows_starred : (text : List ℕ) (w : Written) → Shows w (add_starred marks text w) (encode_utf8_all text)
  shows_starred text w =
      let n = end_of text in
      let body = add_body marks (take n text) w in
      is_text w (add_starred marks text w) _ (encode_utf8_all text) (parts n text)
      (then_shows w body (add_starred marks text w) (encode_utf8_all (take n text)) (encode_utf8_all (drop n text))
      (shows_body (take n text) w) (shows_characters (drop n text) body))

shows_text : (s : Span) (w : Written) → Shows w (add_text s w) (encode_utf8_all s.text)
shows_text s w =
    elim (cases_Bool (s.marks.strong || s.marks.em)) [
      | inl is ↦ rw is (shows_starred s.marks.strong s.marks.em s.text w)
      | inr is ↦ rw is (shows_characters s.text w)
    ]

shows_tags : (bytes : List ℕ) (w : Written) → Gives plain bytes [] → Shows w (add_tags bytes w) []
shows_tags [] w silent = stays w
shows_tags (b ∷ bs) w silent = shows w (b ∷ bs) Tag [] silent

pub shows_span : (s : Span) (w : Written) → Shows w (add_span s w) (encode_utf8_all s.text)
shows_span s w =
    let opening = flat_map open_comment s.marks.comments ++ open_bracket s.marks.link in
    let closing = close_bracket s.marks.link ++ flat_map close_comment s.marks.comments in
    let opened = add_tags opening w in
    let inside = add_text s opened in
    let text = encode_utf8_all s.text in
    is_text w (add_span s w) (text ++ []) text (append-nil text)
    (then_shows w inside (add_span s w) text []
    (then_shows w opened inside [] text
    (shows_tags opening w (both plain (flat_map open_comment s.marks.comments) (open_bracket s.marks.link) [] [] (silent_open_comments s.marks.comments) (silent_open_bracket s.marks.link)))
    (shows_text s opened))
    (shows_tags closing inside (both plain (close_bracket s.marks.link) (flat_map close_comment s.marks.comments) [] [] (silent_close_bracket s.marks.link) (silent_close_comments s.marks.comments))))

shows_spans : (ss : List Span) (w : Written) → Shows w (add_spans ss w) (text_of ss)
shows_spans [] w = stays w
shows_spans (s ∷ ss) w =
    then_shows w (add_span s w) (add_spans ss (add_span s w)) (encode_utf8_all s.text) (text_of ss) (shows_span s w) (shows_spans ss (add_span s w))

-- a page gives the text of its spans, and a line feed
markdown_text : (spans : List Span) → read_markdown plain (markdown_page spans) ≡ text_of spans ++ codes "\n"
markdown_text spans =
    let w = add_spans spans blank in
    let all = shows_spans spans blank in
    let wanted = is_loose w.before && is_some_text w.bytes in
    let foot = if_wanted wanted separator ++ codes "\n" in
    ap (λ l. read_markdown plain (l ++ foot)) all.1.0 ∙ all.1.1 foot ∙ ap (λ l. text_of spans ++ l) (silent_separator wanted (codes "\n"))

-- the same of a page that was finished
pub finished_text : {E : Type 0} (r : Result (Vec ℕ) E) (spans : List Span) (first last : Written)
    → first ≡ blank → last ≡ add_spans spans first → IfOk r (λ page. page.items ≡ finished last)
    → IfOk r (λ page. read_markdown plain page.items ≡ text_of spans ++ codes "\n")
finished_text (Ok page) spans first last p q is =
    ap (read_markdown plain) (is ∙ ap finished (q ∙ ap (add_spans spans) p)) ∙ markdown_text spans
finished_text (Err e) spans first last p q is = tt
