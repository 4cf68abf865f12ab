-- What a reader takes from HTML.
use Rattle.std.proofs.Common.{◌≡◌, ◌≢◌, ℕ, ◌==◌, Bool, true, false, List, [], ◌∷◌, ◌++◌, append_assoc, append-nil, codes, flat_map, encode_utf8_all, Option}
use Rattle.std.proofs.Common.{Some, None, cond, refl, ap, ◌∙◌, arith, inl, inr}
use Rattle.std.proofs.lemmas.Bool.{cases_Bool}
use Rattle.std.proofs.lemmas.Bool.Decides.{Decides-eqb, not_from_Decides, nat_tests}
use Rattle.op_model.specs.declared.mark.Marks.{Marks}
use Rattle.op_model.specs.declared.span.Span.{Span}
use Rattle.span_export.specs.Putting.{if_wanted}
use Rattle.span_export.specs.HtmlText.{html_byte, html_text}
use Rattle.span_export.specs.WebAddress.{is_tame}
use Rattle.span_export.specs.Html.{comment_name, open_comment, close_comment, open_link, close_link, open_tags, close_tags, html_span, html_page}
use Rattle.span_export.specs.Reading.{Place, text, tag, read_html, text_of}

-- a reader at this place takes some of what stands first, and is then in the place again
abbrev pub Gives : Place → List ℕ → List ℕ → Type 0
Gives place written taken = (rest : List ℕ) → read_html place (written ++ rest) ≡ taken ++ read_html place rest

-- by a test of two numbers
by_test : (place : Place) (b k : ℕ) (one other taken : List ℕ) → (b ≡ k → Gives place one taken) → (b ≢ k → Gives place other taken)
    → Gives place (cond (b == k) one other) taken
by_test place b k one other taken is_one is_other rest =
    elim (cases_Bool (b == k)) [
      | inl is ↦ rw is (is_one ((Decides-eqb b k).0 is) rest)
      | inr is ↦ rw is (is_other (not_from_Decides (b == k) (Decides-eqb b k) is) rest)
    ]

-- how a byte stands in text and in quotes, if it is none of those before
abbrev pub after0 : ℕ → List ℕ
after0 b = b ∷ []

abbrev pub after13 : ℕ → List ℕ
after13 b = cond (b == 0) (codes "&#0;") (after0 b)

abbrev pub after39 : ℕ → List ℕ
after39 b = cond (b == 13) (codes "&#13;") (after13 b)

abbrev pub after34 : ℕ → List ℕ
after34 b = cond (b == 39) (codes "&#39;") (after39 b)

abbrev pub after62 : ℕ → List ℕ
after62 b = cond (b == 34) (codes "&quot;") (after34 b)

abbrev pub after60 : ℕ → List ℕ
after60 b = cond (b == 62) (codes "&gt;") (after62 b)

abbrev pub after38 : ℕ → List ℕ
after38 b = cond (b == 60) (codes "&lt;") (after60 b)

-- a byte as it stands in text is read as that byte
byte_in_text : (b : ℕ) → Gives text (html_byte b) (b ∷ [])
byte_in_text b =
    by_test text b 38 (codes "&amp;") (after38 b) (b ∷ []) (λ e rest. rw e refl) (λ n1.
    by_test text b 60 (codes "&lt;") (after60 b) (b ∷ []) (λ e rest. rw e refl) (λ n2.
    by_test text b 62 (codes "&gt;") (after62 b) (b ∷ []) (λ e rest. rw e refl) (λ n3.
    by_test text b 34 (codes "&quot;") (after34 b) (b ∷ []) (λ e rest. rw e refl) (λ n4.
    by_test text b 39 (codes "&#39;") (after39 b) (b ∷ []) (λ e rest. rw e refl) (λ n5.
    by_test text b 13 (codes "&#13;") (after13 b) (b ∷ []) (λ e rest. rw e refl) (λ n6.
    by_test text b 0 (codes "&#0;") (after0 b) (b ∷ []) (λ e rest. rw e refl) (λ n7 rest.
    let no_tag : b == 60 ≡ false = grind (arith, nat_tests) in
    let no_reference : b == 38 ≡ false = grind (arith, nat_tests) in
    rw (no_tag, no_reference) refl)))))))

-- a byte as it stands in quotes of a tag doesn't end it
byte_in_tag : (b : ℕ) → Gives tag (html_byte b) []
byte_in_tag b =
    by_test tag b 38 (codes "&amp;") (after38 b) [] (λ e rest. refl) (λ n1.
    by_test tag b 60 (codes "&lt;") (after60 b) [] (λ e rest. refl) (λ n2.
    by_test tag b 62 (codes "&gt;") (after62 b) [] (λ e rest. refl) (λ n3.
    by_test tag b 34 (codes "&quot;") (after34 b) [] (λ e rest. refl) (λ n4.
    by_test tag b 39 (codes "&#39;") (after39 b) [] (λ e rest. refl) (λ n5.
    by_test tag b 13 (codes "&#13;") (after13 b) [] (λ e rest. refl) (λ n6.
    by_test tag b 0 (codes "&#0;") (after0 b) [] (λ e rest. refl) (λ n7 rest.
    let goes_on : b == 62 ≡ false = grind (arith, nat_tests) in
    rw goes_on refl)))))))

-- what stands one after the other
both : (place : Place) (a b x y : List ℕ) → Gives place a x → Gives place b y → Gives place (a ++ b) (x ++ y)
both place a b x y p q rest = rw (append_assoc a b rest, append_assoc x y (read_html place rest)) (p (b ++ rest) ∙ ap (λ l. x ++ l) (q rest))

-- the same of what each element of a list gives
pub each : {X : Type 0} (place : Place) (f g : X → List ℕ) → ((x : X) → Gives place (f x) (g x)) → (xs : List X) → Gives place (flat_map f xs) (flat_map g xs)
each place f g one [] rest = refl
each place f g one (x ∷ xs) rest = both place (f x) (flat_map f xs) (g x) (flat_map g xs) (one x) (each place f g one xs) rest

-- nothing, of anything
abbrev none : {X : Type 0} → X → List ℕ
none x = []

-- nothing of each is nothing of all
nothing : {X : Type 0} (xs : List X) → flat_map none xs ≡ []
nothing [] = refl
nothing (x ∷ xs) = nothing xs

-- each byte for itself
bytes_themselves : (bs : List ℕ) → flat_map (λ b. b ∷ []) bs ≡ bs
bytes_themselves [] = refl
bytes_themselves (b ∷ bs) = ap (λ l. b ∷ l) (bytes_themselves bs)

-- tags give nothing
abbrev IsSilent : List ℕ → Type 0
IsSilent written = Gives text written []

silent_each : {X : Type 0} (f : X → List ℕ) → ((x : X) → IsSilent (f x)) → (xs : List X) → IsSilent (flat_map f xs)
silent_each f one xs rest = each text f none one xs rest ∙ ap (λ l. l ++ read_html text rest) (nothing xs)

silent_if : (wanted : Bool) (bytes : List ℕ) → IsSilent bytes → IsSilent (if_wanted wanted bytes)
silent_if true bytes is rest = is rest
silent_if false bytes is rest = refl

silent_both : (a b : List ℕ) → IsSilent a → IsSilent b → IsSilent (a ++ b)
silent_both a b p q = both text a b [] [] p q

-- a text in quotes of a tag gives nothing
in_tag : (bs : List ℕ) → Gives tag (html_text bs) []
in_tag bs rest = each tag html_byte none byte_in_tag bs rest ∙ ap (λ l. l ++ read_html tag rest) (nothing bs)

-- a text gives itself
in_text : (bs : List ℕ) → Gives text (html_text bs) bs
in_text bs rest = each text html_byte (λ b. b ∷ []) byte_in_text bs rest ∙ ap (λ l. l ++ read_html text rest) (bytes_themselves bs)

-- the end of a tag with a text in quotes
quotes : (bs rest : List ℕ) → read_html tag ((html_text bs ++ codes "\">") ++ rest) ≡ read_html text rest
quotes bs rest = rw (append_assoc (html_text bs) (codes "\">") rest) (in_tag bs (codes "\">" ++ rest))

silent_open_comment : (id : ℕ) → IsSilent (open_comment id)
silent_open_comment id rest = quotes (comment_name id) rest

silent_close_comment : (id : ℕ) → IsSilent (close_comment id)
silent_close_comment id rest = refl

silent_open_link : (link : Option (List ℕ)) → IsSilent (open_link link)
silent_open_link None rest = refl
silent_open_link (Some address) rest =
    silent_if (is_tame address) (codes "<a href=\"" ++ (html_text address ++ codes "\">")) (λ later. quotes address later) rest

silent_close_link : (link : Option (List ℕ)) → IsSilent (close_link link)
silent_close_link None rest = refl
silent_close_link (Some address) rest = silent_if (is_tame address) (codes "</a>") (λ later. refl) rest

silent_open_tags : (m : Marks) → IsSilent (open_tags m)
silent_open_tags m =
    let comments = flat_map open_comment m.comments in
    let strong = if_wanted m.strong (codes "<strong>") in
    let em = if_wanted m.em (codes "<em>") in
    silent_both comments (open_link m.link ++ (strong ++ em)) (silent_each open_comment silent_open_comment m.comments)
    (silent_both (open_link m.link) (strong ++ em) (silent_open_link m.link)
    (silent_both strong em (silent_if m.strong (codes "<strong>") (λ rest. refl)) (silent_if m.em (codes "<em>") (λ rest. refl))))

silent_close_tags : (m : Marks) → IsSilent (close_tags m)
silent_close_tags m =
    let comments = flat_map close_comment m.comments in
    let strong = if_wanted m.strong (codes "</strong>") in
    let em = if_wanted m.em (codes "</em>") in
    silent_both em (strong ++ (close_link m.link ++ comments)) (silent_if m.em (codes "</em>") (λ rest. refl))
    (silent_both strong (close_link m.link ++ comments) (silent_if m.strong (codes "</strong>") (λ rest. refl))
    (silent_both (close_link m.link) comments (silent_close_link m.link) (silent_each close_comment silent_close_comment m.comments)))

-- a span gives its text
pub span_text : (s : Span) → Gives text (html_span s) (encode_utf8_all s.text)
span_text s rest =
    let shown = html_text (encode_utf8_all s.text) in
    both text (open_tags s.marks) (shown ++ close_tags s.marks) [] (encode_utf8_all s.text ++ []) (silent_open_tags s.marks)
    (both text shown (close_tags s.marks) (encode_utf8_all s.text) [] (in_text (encode_utf8_all s.text)) (silent_close_tags s.marks)) rest
    ∙ ap (λ l. l ++ read_html text rest) (append-nil (encode_utf8_all s.text))

-- a page gives the text of its spans, and a line feed
pub page_text : (spans : List Span) → read_html text (html_page spans) ≡ text_of spans ++ codes "\n"
page_text spans = each text html_span (λ s. encode_utf8_all s.text) span_text spans (codes "</div>\n")
