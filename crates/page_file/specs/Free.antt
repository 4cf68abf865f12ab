-- Which page is the next free one.
use Rattle.std.specs.Prelude.{◌≡◌, ℕ, ◌+◌, ◌<◌, ◌≤◌, true, false, List, [], ◌∷◌, ◌++◌, length, take, get_or, nat_lt, if◌then◌else◌}
use Rattle.page_file.specs.Pages.{has}

-- the lowest number of a page behind the slots that isn't one of these
pub record IsLowestFree (used : List ℕ) (n : ℕ) : Type 0 where
  pub behind : 2 ≤ n
  pub free : has n used ≡ false
  pub lowest : (m : ℕ) → 2 ≤ m → m < n → has m used ≡ true

-- how many of these numbers are smaller
abbrev pub count_below : ℕ → List ℕ → ℕ
count_below n [] = 0
count_below n (m ∷ ms) = if nat_lt m n then count_below n ms + 1 else count_below n ms

-- each of these pages is the lowest free one: all pages below it are used or stand before it
abbrev pub AreLowest : List ℕ → List ℕ → Type 0
AreLowest used numbers = (k m : ℕ) → k < length numbers → 2 ≤ m → m < get_or numbers k 0 → has m (take k numbers ++ used) ≡ true
