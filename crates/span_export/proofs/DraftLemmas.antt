-- Markdown that is written piece by piece.
use Rattle.std.proofs.Common.{◌≡◌, ℕ, ◌+◌, ◌<◌, List, [], ◌∷◌, ◌++◌, length, take, get_or, append-nil, encode_utf8, encode_utf8_all, refl, ap, ◌∙◌}
use Rattle.std.proofs.lemmas.List.{take_more}
use Rattle.std.proofs.lemmas.Str.{encodes-append}
use Rattle.op_model.specs.declared.span.Span.{Span}
use Rattle.span_export.specs.Draft.{Written}
use Rattle.span_export.specs.MarkdownText.{add_byte, add_bytes, add_characters}
use Rattle.span_export.specs.Markdown.{add_span, add_spans}

-- bytes, and then others
pub add_bytes-append : (xs ys : List ℕ) (w : Written) → add_bytes (xs ++ ys) w ≡ add_bytes ys (add_bytes xs w)
add_bytes-append [] ys w = refl
add_bytes-append (x ∷ xs) ys w = add_bytes-append xs ys (add_byte x w)

-- one more byte
pub add_bytes-more : (xs : List ℕ) (i : ℕ) (old mid new : Written) → i < length xs
    → mid ≡ add_bytes (take i xs) old → new ≡ add_byte (get_or xs i 0) mid → new ≡ add_bytes (take (i + 1) xs) old
add_bytes-more xs i old mid new within p q =
    rw (take_more xs i 0 within, add_bytes-append (take i xs) (get_or xs i 0 ∷ []) old) (q ∙ ap (add_byte (get_or xs i 0)) p)

-- one more character
pub add_characters-more : (xs : List ℕ) (i x : ℕ) (old mid new : Written) → i < length xs → x ≡ get_or xs i x
    → mid ≡ add_characters (take i xs) old → new ≡ add_bytes (encode_utf8 x) mid → new ≡ add_characters (take (i + 1) xs) old
add_characters-more xs i x old mid new within is p q =
    let one : encode_utf8_all (x ∷ []) ≡ encode_utf8 x = append-nil (encode_utf8 x) in
    rw (take_more xs i x within, ← is, encodes-append (take i xs) (x ∷ []), one, add_bytes-append (encode_utf8_all (take i xs)) (encode_utf8 x) old)
    (q ∙ ap (add_bytes (encode_utf8 x)) p)

-- spans, and then others
add_spans-append : (xs ys : List Span) (w : Written) → add_spans (xs ++ ys) w ≡ add_spans ys (add_spans xs w)
add_spans-append [] ys w = refl
add_spans-append (x ∷ xs) ys w = add_spans-append xs ys (add_span x w)

-- one more span
pub add_spans-more : (xs : List Span) (i : ℕ) (x : Span) (old mid new : Written) → i < length xs → x ≡ get_or xs i x
    → mid ≡ add_spans (take i xs) old → new ≡ add_span x mid → new ≡ add_spans (take (i + 1) xs) old
add_spans-more xs i x old mid new within is p q =
    rw (take_more xs i x within, ← is, add_spans-append (take i xs) (x ∷ []) old) (q ∙ ap (add_span x) p)
