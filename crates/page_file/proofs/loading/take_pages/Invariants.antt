use Rattle.std.proofs.Common.{◌+◌, ◌-◌, ◌≤◌, drop, length, vec_len, vec_capacity}
use Rattle.page_file.specs.Index.{AreOthers}
use Rattle.page_file.proofs.loading.take_pages.Given as goal

-- the ranges have all pages but those that were passed
abbrev pub invariant-loop-passed : goal.invariant-loop-passed
invariant-loop-passed l = record {
  others : AreOthers (drop (length l.pages - l.passed) l.pages) l.gaps.items;
  size : vec_len l.gaps ≤ vec_len l.fn.gaps + l.passed;
  capacity : vec_capacity l.fn.gaps ≤ vec_capacity l.gaps;
}
