-- The URL of a link.
use Rattle.std.proofs.Common.{◌≡◌, ℕ, ◌≤◌, true, ltb, cond, List, length, take, drop, Ok, Err, refl, ap, ◌∙◌, arith}
use Rattle.std.specs.Int.{w16, is_in_range}
use Rattle.std.specs.Str.{IsUtf8, is_utf8}
use Rattle.std.proofs.lemmas.Bool.{ltb-false, false_from_ne_true}
use Rattle.std.proofs.lemmas.Bool.Decides.{nat_tests}
use Rattle.std.proofs.lemmas.List.{length-take}
use Rattle.std.proofs.lemmas.Str.{is_utf8-from_IsUtf8, IsUtf8-from_is_utf8}
use Rattle.change_codec.specs.declared.codec_error.CodecError.TheVariants.{Length, Utf8}
use Rattle.change_codec.specs.Reading.{number_at, bytes_at, url_at}
use Rattle.change_codec.proofs.Steps.{guard_ok}

-- with its length and its bytes read, the test of UTF-8 is left
url_read : (bytes : List ℕ) (len : ℕ) (rest text after : List ℕ) → number_at w16 bytes ≡ Ok (len, rest) → 1 ≤ len → len ≤ 1024 → bytes_at len rest ≡ Ok (text, after) → url_at bytes ≡ (cond (is_utf8 text) (Ok (text, after)) (Err Utf8))
unfolding url_at
url_read bytes len rest text after number low high read =
    let range : is_in_range 1 1024 len ≡ true = grind (arith, nat_tests) in
    rw (number, range, read) refl

pub url_valid : (bytes : List ℕ) (len : ℕ) (rest text after : List ℕ) → number_at w16 bytes ≡ Ok (len, rest) → 1 ≤ len → len ≤ 1024 → bytes_at len rest ≡ Ok (text, after) → IsUtf8 text → url_at bytes ≡ Ok (text, after)
url_valid bytes len rest text after number low high read utf8 =
    url_read bytes len rest text after number low high read ∙ rw (is_utf8-from_IsUtf8 text utf8) refl

pub url_invalid : (bytes : List ℕ) (len : ℕ) (rest text after : List ℕ) → number_at w16 bytes ≡ Ok (len, rest) → 1 ≤ len → len ≤ 1024 → bytes_at len rest ≡ Ok (text, after) → ¬ (IsUtf8 text) → url_at bytes ≡ Err Utf8
url_invalid bytes len rest text after number low high read other =
    url_read bytes len rest text after number low high read ∙ rw (false_from_ne_true (is_utf8 text) (λ (h : is_utf8 text ≡ true). other (IsUtf8-from_is_utf8 text h))) refl

-- as many bytes are taken as were asked for
pub length-taken : (n : ℕ) (bytes text rest : List ℕ) → bytes_at n bytes ≡ Ok (text, rest) → length text ≡ n
unfolding bytes_at
length-taken n bytes text rest e =
    let g = guard_ok (ltb (length bytes) n) Length (take n bytes, drop n bytes) (text, rest) e in
    let long : n ≤ length bytes = ltb-false _ _ g.0 in
    let is : length (take n bytes) ≡ length text = ap (λ (p : List ℕ × List ℕ). length p.0) g.1 in
    omega (arith, is, length-take n bytes)
