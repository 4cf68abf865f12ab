-- Spans whose line feeds stand alone.
use Rattle.std.proofs.Common.{◌≡◌, ◌≢◌, ℕ, ◌+◌, ◌<◌, ◌≤◌, ◌==◌, false, List, [], ◌∷◌, ◌++◌, length, take, drop, get_or, refl, arith}
use Rattle.std.proofs.lemmas.Bool.Decides.{nat_tests}
use Rattle.std.proofs.lemmas.List.{take_more, drop_more, drop_all, drop-append-le, length-take, length-take-le}
use Rattle.op_model.specs.declared.mark.Marks.{Marks}
use Rattle.span_export.specs.Paragraphs.{is_break, part, line_feed, parted_from}

-- the characters from one place up to another
abbrev pub between : ℕ → ℕ → List ℕ → List ℕ
between start end xs = drop start (take end xs)

-- none
pub between_none : (end : ℕ) (xs : List ℕ) → between end end xs ≡ []
between_none end xs = drop_all end (take end xs) (omega (arith, length-take end xs))

-- one more
between_more : (start i : ℕ) (xs : List ℕ) → start ≤ i → i < length xs → between start (i + 1) xs ≡ between start i xs ++ get_or xs i 0 ∷ []
between_more start i xs before within =
    let long : length (take i xs) ≡ i = length-take-le i xs (omega arith) in
    rw (take_more xs i 0 within) (drop-append-le start (take i xs) (get_or xs i 0 ∷ []) (omega arith))

-- a number that isn't another
differs : (a b : ℕ) → a ≢ b → a == b ≡ false
differs a b other = grind (arith, nat_tests)

-- no line feed alone, with one more character that is none
pub unbroken : (begun : List ℕ) (c : ℕ) → c == 10 ≡ false → is_break (begun ++ c ∷ []) ≡ false
unbroken [] c other = other
unbroken (x ∷ []) c other = refl
unbroken (x ∷ y ∷ ys) c other = refl

-- the same of characters that are there
pub unbroken_more : (start i : ℕ) (xs : List ℕ) → start ≤ i → i < length xs → get_or xs i 0 ≢ 10 → is_break (between start (i + 1) xs) ≡ false
unbroken_more start i xs before within other =
    rw (between_more start i xs before within) (unbroken (between start i xs) (get_or xs i 0) (differs (get_or xs i 0) 10 other))

-- and of none
pub unbroken_none : (end : ℕ) (xs : List ℕ) → is_break (between end end xs) ≡ false
unbroken_none end xs = rw (between_none end xs) refl

-- what is still to come, at a line feed
pub parted_at_break : (start i : ℕ) (xs : List ℕ) (m : Marks) → i < length xs → get_or xs i 0 ≡ 10
    → parted_from (between start i xs) (drop i xs) m ≡ part (between start i xs) m ++ (line_feed ∷ parted_from (between (i + 1) (i + 1) xs) (drop (i + 1) xs) m)
parted_at_break start i xs m within is = rw (drop_more xs i 0 within, is, between_none (i + 1) xs) refl

-- at any other character
pub parted_at_other : (start i : ℕ) (xs : List ℕ) (m : Marks) → start ≤ i → i < length xs → get_or xs i 0 ≢ 10
    → parted_from (between start i xs) (drop i xs) m ≡ parted_from (between start (i + 1) xs) (drop (i + 1) xs) m
parted_at_other start i xs m before within other =
    let no_break : get_or xs i 0 == 10 ≡ false = differs (get_or xs i 0) 10 other in
    rw (drop_more xs i 0 within, no_break, between_more start i xs before within) refl

-- and at the end
pub parted_at_end : (start i : ℕ) (xs : List ℕ) (m : Marks) → i ≡ length xs → parted_from (between start i xs) (drop i xs) m ≡ part (between start i xs) m
parted_at_end start i xs m past = rw (drop_all i xs (omega arith)) refl
