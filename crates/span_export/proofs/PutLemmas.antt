-- Bytes that are put one after the other.
use Rattle.std.proofs.Common.{◌≡◌, ℕ, ◌+◌, ◌<◌, List, [], ◌∷◌, ◌++◌, length, take, get_or, flat_map, append_assoc, append-nil, encode_utf8, encode_utf8_all}
use Rattle.std.proofs.Common.{Result, Ok, Err, OnOk, ap, ◌∙◌}
use Rattle.std.proofs.lemmas.List.{take_more}
use Rattle.std.proofs.lemmas.List.Concat.{flat_map-append}
use Rattle.std.proofs.lemmas.Str.{encodes-append}

-- what is put for the elements so far, and for one more
pub put_more : {X : Type 0} (f : X → List ℕ) (old mid new : List ℕ) (xs : List X) (i : ℕ) (x : X) → i < length xs → x ≡ get_or xs i x
    → mid ≡ old ++ flat_map f (take i xs) → new ≡ mid ++ f x → new ≡ old ++ flat_map f (take (i + 1) xs)
put_more f old mid new xs i x within is p q =
    rw (take_more xs i x within, ← is, flat_map-append f (take i xs) (x ∷ []), append-nil (f x))
    (q ∙ ap (λ l. l ++ f x) p ∙ append_assoc old (flat_map f (take i xs)) (f x))

-- the same of characters, each as its bytes
pub put_more_characters : (f : ℕ → List ℕ) (old mid new : List ℕ) (xs : List ℕ) (i x : ℕ) → i < length xs → x ≡ get_or xs i x
    → mid ≡ old ++ flat_map f (encode_utf8_all (take i xs)) → new ≡ mid ++ flat_map f (encode_utf8 x)
    → new ≡ old ++ flat_map f (encode_utf8_all (take (i + 1) xs))
put_more_characters f old mid new xs i x within is p q =
    let one : encode_utf8_all (x ∷ []) ≡ encode_utf8 x = append-nil (encode_utf8 x) in
    rw (take_more xs i x within, ← is, encodes-append (take i xs) (x ∷ []), one, flat_map-append f (encode_utf8_all (take i xs)) (encode_utf8 x))
    (q ∙ ap (λ l. l ++ flat_map f (encode_utf8 x)) p ∙ append_assoc old (flat_map f (encode_utf8_all (take i xs))) (flat_map f (encode_utf8 x)))

-- bytes, and then others
pub then_puts : {T E : Type 0} (r : Result T E) (old mid new first later : List ℕ)
    → mid ≡ old ++ first → OnOk r (new ≡ mid ++ later) → OnOk r (new ≡ old ++ (first ++ later))
then_puts (Ok x) old mid new first later p q = q ∙ ap (λ l. l ++ later) p ∙ append_assoc old first later
then_puts (Err e) old mid new first later p q = tt

-- the same of characters as they are
pub put_more_text : (old mid new xs : List ℕ) (i x : ℕ) → i < length xs → x ≡ get_or xs i x
    → mid ≡ old ++ encode_utf8_all (take i xs) → new ≡ mid ++ encode_utf8 x → new ≡ old ++ encode_utf8_all (take (i + 1) xs)
put_more_text old mid new xs i x within is p q =
    let one : encode_utf8_all (x ∷ []) ≡ encode_utf8 x = append-nil (encode_utf8 x) in
    rw (take_more xs i x within, ← is, encodes-append (take i xs) (x ∷ []), one)
    (q ∙ ap (λ l. l ++ encode_utf8 x) p ∙ append_assoc old (encode_utf8_all (take i xs)) (encode_utf8 x))
