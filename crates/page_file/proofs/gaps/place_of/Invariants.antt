use Rattle.std.proofs.Common.{◌≡◌, ◌-◌, true, drop, length}
use Rattle.page_file.specs.Gaps.{begins_by}
use Rattle.page_file.proofs.gaps.place_of.Given as goal

-- the ranges that were passed don't start behind the page
abbrev pub invariant-loop-passed : goal.invariant-loop-passed
invariant-loop-passed l = begins_by l.page (drop (length l.gaps - l.passed) l.gaps) ≡ true
