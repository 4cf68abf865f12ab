-- The text of spans whose line feeds stand alone.
use Rattle.std.proofs.Common.{◌≡◌, ℕ, ◌==◌, true, false, List, [], ◌∷◌, ◌++◌, append_assoc, append-nil, flat_map, encode_utf8, encode_utf8_all}
use Rattle.std.proofs.Common.{codes, cond, refl, ap, ◌∙◌, inl, inr}
use Rattle.std.proofs.lemmas.Bool.{cases_Bool}
use Rattle.std.proofs.lemmas.Bool.Decides.{Decides-eqb}
use Rattle.std.proofs.lemmas.List.Concat.{flat_map-append}
use Rattle.std.proofs.lemmas.Str.{encodes-append}
use Rattle.op_model.specs.declared.mark.Marks.{Marks}
use Rattle.op_model.specs.declared.span.Span.{Span}
use Rattle.span_export.specs.Reading.{text_of}
use Rattle.span_export.specs.Paragraphs.{is_break, part, line_feed, parted_from, parted_span, parted, twice_if_break, spaced_text_of}
use Rattle.span_export.proofs.ParagraphLemmas.{unbroken}

-- a line feed alone is one
pub broken : (cs : List ℕ) → is_break cs ≡ true → cs ≡ 10 ∷ []
broken [] e = cc
broken (c ∷ []) e = ap (λ d. d ∷ []) ((Decides-eqb c 10).0 e)
broken (c ∷ d ∷ ds) e = cc

-- the characters of a span
abbrev characters_of : Span → List ℕ
characters_of s = encode_utf8_all s.text

-- with an empty line in place of a line feed alone
abbrev pub spaced : Span → List ℕ
spaced s = cond (is_break s.text) (codes "\n\n") (encode_utf8_all s.text)

-- a text after another, of which one character stands at the end of the one or at the start of the other
one_over : (begun : List ℕ) (c : ℕ) (later : List ℕ) → encode_utf8_all (begun ++ c ∷ []) ++ later ≡ encode_utf8_all begun ++ (encode_utf8 c ++ later)
one_over begun c later =
    rw (encodes-append begun (c ∷ []), append-nil (encode_utf8 c)) (append_assoc (encode_utf8_all begun) (encode_utf8 c) later)

text_of_part : (cs : List ℕ) (m : Marks) → flat_map characters_of (part cs m) ≡ encode_utf8_all cs
text_of_part [] m = refl
text_of_part (c ∷ cs) m = append-nil (encode_utf8_all (c ∷ cs))

text_from : (begun cs : List ℕ) (m : Marks) → flat_map characters_of (parted_from begun cs m) ≡ encode_utf8_all begun ++ encode_utf8_all cs
unfolding lib.Utf8.encode
text_from begun [] m = rw (append-nil (encode_utf8_all begun)) (text_of_part begun m)
text_from begun (c ∷ cs) m =
    elim (cases_Bool (c == 10)) [
      | inl is ↦
          let same : c ≡ 10 = (Decides-eqb c 10).0 is in
          rw (is, flat_map-append characters_of (part begun m) (line_feed ∷ parted_from [] cs m), text_of_part begun m, text_from [] cs m, same) refl
      | inr is ↦ rw is (text_from (begun ++ c ∷ []) cs m ∙ one_over begun c (encode_utf8_all cs))
    ]

-- the text stays the same
pub text_parted : (spans : List Span) → text_of (parted spans) ≡ text_of spans
text_parted [] = refl
text_parted (s ∷ ss) =
    rw (flat_map-append characters_of (parted_span s) (parted ss), text_from [] s.text s.marks, text_parted ss) refl

spaced_part : (cs : List ℕ) (m : Marks) → is_break cs ≡ false → flat_map spaced (part cs m) ≡ encode_utf8_all cs
spaced_part [] m e = refl
spaced_part (c ∷ cs) m e = rw e (append-nil (encode_utf8_all (c ∷ cs)))

spaced_from : (begun cs : List ℕ) (m : Marks) → is_break begun ≡ false
    → flat_map spaced (parted_from begun cs m) ≡ encode_utf8_all begun ++ encode_utf8_all (flat_map twice_if_break cs)
unfolding lib.Utf8.encode
spaced_from begun [] m e = rw (append-nil (encode_utf8_all begun)) (spaced_part begun m e)
spaced_from begun (c ∷ cs) m e =
    elim (cases_Bool (c == 10)) [
      | inl is ↦
          rw (is, flat_map-append spaced (part begun m) (line_feed ∷ parted_from [] cs m), spaced_part begun m e, spaced_from [] cs m refl) refl
      | inr is ↦ rw is (spaced_from (begun ++ c ∷ []) cs m (unbroken begun c is) ∙ one_over begun c (encode_utf8_all (flat_map twice_if_break cs)))
    ]

-- with empty lines, it is the text with each line feed twice
pub spaced_parted : (spans : List Span) → flat_map spaced (parted spans) ≡ spaced_text_of spans
spaced_parted [] = refl
spaced_parted (s ∷ ss) =
    rw (flat_map-append spaced (parted_span s) (parted ss), spaced_from [] s.text s.marks refl, spaced_parted ss) refl
