-- Used by private functions and proofs alone.
--
-- Which beginning of a text another one ends with.
use Rattle.std.specs.Prelude.{◌≡◌, ℕ, zero, suc, ◌≤◌, ◌<◌, ◌==◌, Bool, false, List, [], ◌∷◌, ◌++◌, length, take, drop, get_or}

-- this character follows the first so many ones
abbrev pub fits : List ℕ → ℕ → ℕ → Bool
fits [] count c = false
fits (x ∷ xs) zero c = x == c
fits (x ∷ xs) (suc count) c = fits xs count c

-- what was read ends with the first so many characters of a text
abbrev pub EndsWith : List ℕ → List ℕ → ℕ → Type 0
EndsWith sought read count = (count ≤ length sought) × (front : List ℕ) × (read ≡ front ++ take count sought)

-- and with no more of them
abbrev pub IsLongest : List ℕ → List ℕ → ℕ → Type 0
IsLongest sought read count = EndsWith sought read count × ((more : ℕ) → EndsWith sought read more → more ≤ count)

-- of the beginnings of a text, these are the most of its first characters that each ends with, without being all of it
abbrev pub AreBorders : List ℕ → List ℕ → Type 0
AreBorders sought borders =
    (length borders ≤ length sought)
    × ((count : ℕ) → count < length borders → IsLongest sought (drop 1 (take (suc count) sought)) (get_or borders count 0))
