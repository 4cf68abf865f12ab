-- Which files a crash may leave.
use Rattle.std.specs.Prelude.{◌≡◌, ◌⊎◌, ◌<◌, ◌≤◌, ℕ, ◌+◌, List, length, slice_index, All}

-- a range of a file: where it begins, and how many bytes it has
abbrev pub Range : Type 0
Range = ℕ × ℕ

-- this place isn't in the range
abbrev pub IsOutside : ℕ → Range → Type 0
IsOutside i range = (i < range.0) ⊎ (range.0 + range.1 ≤ i)

-- A crash may leave this file, where the last sync settled `settled` and these ranges were written
-- since, up to this size: the size is one between, and each settled byte outside of the ranges is
-- what it was. All other bytes may be anything.
pub record MayLeave (size : ℕ) (settled : List ℕ) (ranges : List Range) (c : List ℕ) : Type 0 where
  pub no_shorter : length settled ≤ length c
  pub no_longer : length c ≤ size
  pub untouched : (i : ℕ) → i < length settled → All (IsOutside i) ranges
      → slice_index c i ≡ slice_index settled i

-- two files have one size, and the same bytes outside of these ranges
abbrev pub IsSameOutside : List Range → List ℕ → List ℕ → Type 0
IsSameOutside ranges a b = (length a ≡ length b)
    × ((i : ℕ) → i < length b → All (IsOutside i) ranges → slice_index a i ≡ slice_index b i)
