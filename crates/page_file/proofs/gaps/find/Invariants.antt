use Rattle.std.proofs.Common.{◌≡◌, ◌-◌, false, drop, length}
use Rattle.page_file.specs.Gaps.{in_gaps}
use Rattle.page_file.proofs.gaps.find.Given as goal

-- the ranges that were passed don't have the page
abbrev pub invariant-loop-passed : goal.invariant-loop-passed
invariant-loop-passed l = in_gaps l.page (drop (length l.gaps - l.passed) l.gaps) ≡ false
