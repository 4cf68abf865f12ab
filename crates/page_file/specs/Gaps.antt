-- Ranges of pages.
use Rattle.std.specs.Prelude.{◌≡◌, ◌≤◌, ◌==◌, ℕ, ◌+◌, Bool, true, false, not, ◌&&◌, ◌||◌, nat_le, nat_lt, if◌then◌else◌}
use Rattle.std.specs.Prelude.{List, [], ◌∷◌, Vec, vec_len, vec_capacity}
use Rattle.std.specs.declared.alloc.Global.{Global}
use Rattle.page_file.specs.declared.gaps.Gap.{Gap}

-- is one of the pages of a range
abbrev pub in_gap : ℕ → Gap → Bool
in_gap n gap = nat_le gap.start n && nat_lt n gap.end

-- is one of the pages of these ranges
abbrev pub in_gaps : ℕ → List Gap → Bool
in_gaps n [] = false
in_gaps n (gap ∷ gaps) = in_gap n gap || in_gaps n gaps

-- each range has a page, and the first ends at this number at most, each other one where the one before it starts at most
abbrev pub are_falling : ℕ → List Gap → Bool
are_falling top [] = true
are_falling top (gap ∷ gaps) = nat_lt gap.start gap.end && nat_le gap.end top && are_falling gap.start gaps

-- where the last of these ranges starts, or this number where there is none
abbrev pub bottom : ℕ → List Gap → ℕ
bottom top [] = top
bottom top (gap ∷ gaps) = bottom gap.start gaps

-- the first of these ranges, if there is one, doesn't start behind this page
abbrev pub begins_by : ℕ → List Gap → Bool
begins_by n [] = true
begins_by n (gap ∷ gaps) = nat_le gap.start n

-- the pages from a start up to an end, as one range or none
abbrev pub between : ℕ → ℕ → List Gap
between start end = if nat_lt start end then record { start = start; end = end } ∷ [] else []

-- the ranges fall, and have the pages that they had but for this one
pub record Loses (page : ℕ) (old new : List Gap) : Type 0 where
  pub falling : are_falling 4294967296 new ≡ true
  pub left : (m : ℕ) → in_gaps m new ≡ (in_gaps m old && not (m == page))

-- the ranges fall, and have the pages that they had and those of which this is so
pub record Gains (is_given : ℕ → Bool) (old new : List Gap) : Type 0 where
  pub falling : are_falling 4294967296 new ≡ true
  pub more : (m : ℕ) → in_gaps m new ≡ (in_gaps m old || is_given m)

-- the list has at most this number of ranges more, and no less memory
pub record Grows (more : ℕ) (old new : Vec Gap Global) : Type 0 where
  pub size : vec_len new ≤ vec_len old + more
  pub capacity : vec_capacity old ≤ vec_capacity new
