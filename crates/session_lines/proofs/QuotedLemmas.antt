-- A JSON string that is made piece by piece.
use Rattle.std.proofs.Common.{◌≡◌, ℕ, ◌+◌, ◌-◌, List, [], ◌∷◌, ◌++◌, length, take, slice_range}
use Rattle.std.proofs.Common.{codes, flat_map, encode_utf8, encode_utf8_all, get_or, ◌<◌, append-nil, refl, ap, ◌∙◌, arith, length-append}
use Rattle.std.proofs.lemmas.List.{take_at, take_more}
use Rattle.std.proofs.lemmas.List.Concat.{flat_map-append}
use Rattle.std.proofs.lemmas.Str.{encodes-append}
use Rattle.session_lines.specs.Putting.{inside}
use Rattle.session_lines.specs.Words.{quoted}

-- what stands between two quotes
between_quotes : (bytes : List ℕ) → slice_range (34 ∷ (bytes ++ 34 ∷ [])) 1 (length (34 ∷ (bytes ++ 34 ∷ [])) - 1) ≡ bytes
between_quotes bytes = take_at bytes (34 ∷ []) _ (let n = length-append bytes (34 ∷ []) in omega arith)

module _ (f : ℕ → List ℕ) where
  abbrev between : List ℕ → List ℕ
  between xs = slice_range (34 ∷ (flat_map f xs ++ 34 ∷ [])) 1 (length (34 ∷ (flat_map f xs ++ 34 ∷ [])) - 1)

  between-append : (xs ys zs : List ℕ) → zs ≡ xs ++ ys → between zs ≡ between xs ++ between ys
  between-append xs ys zs all =
      rw (between_quotes (flat_map f zs), between_quotes (flat_map f xs), between_quotes (flat_map f ys), all) (flat_map-append f xs ys)

  around : (xs : List ℕ) → 34 ∷ (flat_map f xs ++ 34 ∷ []) ≡ 34 ∷ (between xs ++ 34 ∷ [])
  around xs = rw (between_quotes (flat_map f xs)) refl

-- between the quotes of bytes and others stands what stands between the quotes of each
pub inside-append : (xs ys : List ℕ) → inside (xs ++ ys) ≡ inside xs ++ inside ys
inside-append xs ys = between-append _ xs ys (xs ++ ys) refl

-- a JSON string has a quote, what stands between its quotes, and a quote
pub in_quotes : (bytes : List ℕ) → quoted bytes ≡ codes "\"" ++ (inside bytes ++ codes "\"")
in_quotes bytes = around _ bytes

-- one more byte
pub inside-more : (xs : List ℕ) (i x : ℕ) → i < length xs → x ≡ get_or xs i x → inside (take (i + 1) xs) ≡ inside (take i xs) ++ inside (x ∷ [])
inside-more xs i x within is = rw (take_more xs i x within, ← is) (inside-append (take i xs) (x ∷ []))

-- one more character
pub inside_characters-more : (xs : List ℕ) (i x : ℕ) → i < length xs → x ≡ get_or xs i x
    → inside (encode_utf8_all (take (i + 1) xs)) ≡ inside (encode_utf8_all (take i xs)) ++ inside (encode_utf8 x)
inside_characters-more xs i x within is =
    rw (take_more xs i x within, ← is, encodes-append (take i xs) (x ∷ []))
    (inside-append (encode_utf8_all (take i xs)) (encode_utf8_all (x ∷ [])) ∙ ap (λ l. inside (encode_utf8_all (take i xs)) ++ inside l) (append-nil (encode_utf8 x)))
