use Rattle.std.proofs.Common.{◌≡◌, ◌≤◌, ◌++◌, length, vec_capacity}
use Rattle.page_file.specs.Free.{AreLowest}
use Rattle.page_file.specs.Index.{used, AreOthers}
use Rattle.page_file.proofs.pages.Pages.lowest_free_pages.Given as goal

-- the ranges have all pages that are neither used nor found, and the counter tells how many are found
abbrev pub invariant-loop : goal.invariant-loop
invariant-loop l = record {
  others : AreOthers (l.found.items ++ used l.self) l.gaps.items;
  lowest : AreLowest (used l.self) l.found.items;
  count : length l.found.items ≡ l.counter;
  room : l.count ≤ vec_capacity l.found;
}
