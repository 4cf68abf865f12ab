-- What a write makes of a file, and what a crash may make of the write. A file is the list of its
-- bytes.
use Rattle.std.specs.Prelude.{◌≡◌, ◌≤◌, ℕ, ◌+◌, max, List, ◌++◌, length, take, drop}

-- n bytes of the file from this offset on, or as many as there are
abbrev pub part : List ℕ → ℕ → ℕ → List ℕ
part file at n = take n (drop at file)

-- the file with these bytes at this offset, over what is there and past the end
abbrev pub overwritten : List ℕ → ℕ → List ℕ → List ℕ
overwritten file at bytes = take at file ++ bytes ++ drop (at + length bytes) file

-- After a torn write of n bytes: any bytes in the range and past the old end, the same bytes
-- elsewhere, and a size between the old one and the one that the write makes.
pub record Torn (at n : ℕ) (old new : List ℕ) : Type 0 where
  pub before : take at new ≡ take at old
  pub after : drop (at + n) new ≡ drop (at + n) old
  pub no_shorter : length old ≤ length new
  pub no_longer : length new ≤ max (length old) (at + n)
