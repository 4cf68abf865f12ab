use Rattle.std.proofs.Common.{◌≡◌, ℕ, ◌+◌, ◌≤◌, ◌||◌, true, take, vec_len, vec_capacity}
use Rattle.page_file.specs.Gaps.{in_gaps, are_falling}
use Rattle.page_file.specs.Pages.{has}
use Rattle.page_file.proofs.adopting.give_pages.Given as goal

-- the pages so far are given back
abbrev pub invariant-loop-page : goal.invariant-loop-page
invariant-loop-page l = record {
  falling : are_falling 4294967296 l.gaps.items ≡ true;
  more : (m : ℕ) → in_gaps m l.gaps.items ≡ (in_gaps m l.fn.gaps.items || has m (take l.page-index l.pages));
  size : vec_len l.gaps ≤ vec_len l.fn.gaps + l.page-index;
  capacity : vec_capacity l.fn.gaps ≤ vec_capacity l.gaps;
}
