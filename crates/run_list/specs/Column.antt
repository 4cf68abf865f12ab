-- How a column of numbers is held: where it changes, and to what.
use Rattle.std.specs.Prelude.{◌≡◌, ℕ, zero, suc, ◌<◌, ◌^◌, ◌==◌, nat_lt, List, [], ◌∷◌, length, if◌then◌else◌}

-- where these change, behind one, if the first of them stands there
abbrev pub change_starts : ℕ → ℕ → List ℕ → List ℕ
change_starts last at [] = []
change_starts last at (n ∷ ns) = if n == last then change_starts n (suc at) ns else at ∷ change_starts n (suc at) ns

-- and to what
abbrev pub changes_behind : ℕ → List ℕ → List ℕ
changes_behind last [] = []
changes_behind last (n ∷ ns) = if n == last then changes_behind n ns else n ∷ changes_behind n ns

-- the last of these, or the one before all
abbrev pub number_behind : ℕ → List ℕ → ℕ
number_behind last [] = last
number_behind last (n ∷ ns) = number_behind n ns

-- what stands at a place: what the last change up to it made, or the one before all
abbrev pub number_at : ℕ → ℕ → List ℕ → List ℕ → ℕ
number_at place last [] changes = last
number_at place last (s ∷ ss) [] = last
number_at place last (s ∷ ss) (n ∷ ns) = if nat_lt s (suc place) then number_at place n ss ns else last

-- what stands at so many places, from one on
unfoldable pub numbers_from : ℕ → ℕ → List ℕ → List ℕ → List ℕ
numbers_from zero place starts changes = []
numbers_from (suc n) place starts changes = number_at place 0 starts changes ∷ numbers_from n (suc place) starts changes

-- the numbers of a column: before the first change stand zeros
abbrev pub numbers_of : List ℕ → List ℕ → ℕ → List ℕ
numbers_of starts changes len = numbers_from len 0 starts changes

-- so many numbers are these, and change there and to that
pub record HoldsColumn (starts changes : List ℕ) (len : ℕ) (numbers : List ℕ) : Type 0 where
  pub starts_so : starts ≡ change_starts 0 0 numbers
  pub changes_so : changes ≡ changes_behind 0 numbers
  pub len_so : len ≡ length numbers
  pub few : length numbers < 2 ^ 32

-- the changes are those of the numbers that they stand for
abbrev pub IsColumn : List ℕ → List ℕ → ℕ → Type 0
IsColumn starts changes len = HoldsColumn starts changes len (numbers_of starts changes len)

-- how many changes these make
abbrev pub changes_in : List ℕ → ℕ
changes_in numbers = length (change_starts 0 0 numbers)
