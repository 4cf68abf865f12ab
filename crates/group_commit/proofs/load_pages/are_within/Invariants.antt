use Rattle.std.proofs.Common.{◌≡◌, drop}
use Rattle.group_commit.specs.Loading.{are_within}
use Rattle.group_commit.proofs.load_pages.are_within.Given as goal

-- what was passed lies in the file
abbrev pub invariant-loop-number : goal.invariant-loop-number
invariant-loop-number l = are_within l.size (drop l.number-index l.numbers) ≡ are_within l.size l.numbers
